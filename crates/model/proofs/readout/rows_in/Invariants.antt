-- `model::readout::rows_in` meets its contract: the first i rows are read. Assumes nothing.
use Rattle.std.proofs.Common.{◌≡◌, take}
use Rattle.locks.specs.Lists.{padded}
use Rattle.locks.specs.Rows.{no_row}
use Rattle.locks.specs.Cells.{rows_in}
use Rattle.places.specs.Places.{ROWS}
use Rattle.model.proofs.readout.rows_in.Given as goal

abbrev pub invariant-loop-i : goal.invariant-loop-i
invariant-loop-i l = l.rows ≡ padded ROWS no_row (take l.i (rows_in l.t l.used))
