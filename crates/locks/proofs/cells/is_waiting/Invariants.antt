-- `cells::is_waiting` meets its contract: no row from place i on is one that waits. Assumes nothing.
use Rattle.std.proofs.Common.{◌≡◌, List, length}
use Rattle.locks.specs.declared.rows.Row.{Row}
use Rattle.locks.specs.Rows.{waits_of, waiting_of}
use Rattle.locks.proofs.Loops.{sifted}
use Rattle.locks.specs.Cells.{Shows}
use Rattle.locks.proofs.cells.is_waiting.Given as goal

abbrev pub invariant-loop-i : goal.invariant-loop-i
invariant-loop-i l = (rows : List Row) → Shows l.t rows → length rows ≡ l.used → waiting_of l.owner rows ≡ sifted (waits_of l.owner) rows l.i
