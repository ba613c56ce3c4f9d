-- `papers::answers::answer_bytes` meets its contract. Assumes nothing.
use Rattle.std.proofs.Common.{◌∙◌, arith}
use Rattle.papers.specs.Answers.{answer_bytes}
use Rattle.papers.proofs.Numbers.{written16, written32}
use Rattle.papers.proofs.answers.answer_bytes.Goals as goal

pub returns : goal.returns
unfolding answer_bytes
returns c =
    let a = c.args.a in
    rw (
      c.copy_from_slice-4.ensures.after,
      c.copy_from_slice-3.ensures.after,
      c.copy_from_slice-2.ensures.after,
      c.copy_from_slice.ensures.after,
      c.to_be_bytes.ensures ∙ written16 a.woken (omega arith),
      c.to_be_bytes-2.ensures ∙ written16 a.ended (omega arith),
      c.to_be_bytes-3.ensures ∙ written32 a.d3 (omega arith),
      c.to_be_bytes-4.ensures ∙ written32 a.a0 (omega arith),
    )
