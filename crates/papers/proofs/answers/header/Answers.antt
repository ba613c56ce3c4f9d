-- `papers::answers::header` meets its contract. Assumes nothing.
use Rattle.std.proofs.Common.{◌∙◌, arith}
use Rattle.papers.specs.Answers.{sheet_header}
use Rattle.papers.proofs.Numbers.{written16}
use Rattle.papers.proofs.answers.header.Goals as goal

pub returns : goal.returns
unfolding sheet_header
returns c = rw (c.to_be_bytes.ensures ∙ written16 c.args.n (omega arith))
