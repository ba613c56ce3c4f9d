-- `model::layout::put_rows` meets its contract: the first i rows are in their cells. Assumes nothing.
use Rattle.std.proofs.Common.{take}
use Rattle.locks.specs.Cells.{Rows}
use Rattle.model.proofs.layout.put_rows.Given as goal

abbrev pub invariant-loop-i : goal.invariant-loop-i
invariant-loop-i l = Rows l.t (take l.i l.rows)
