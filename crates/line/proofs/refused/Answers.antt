-- `line::refused` meets its contract. Assumes nothing.
use Rattle.line.proofs.Puts.{then, printed}
use Rattle.line.specs.Line.{refused_line}
use Rattle.line.proofs.refused.Goals as goal

pub returns : goal.returns
unfolding refused_line
returns c =
    printed (then (then (rw c.number.ensures at c.put_named-at.ensures.put) c.put_offset-end.ensures.put) c.put.ensures)
