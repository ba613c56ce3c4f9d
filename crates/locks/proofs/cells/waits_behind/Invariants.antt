-- `cells::waits_behind` meets its contract: none of the first i rows conflicts with it. Assumes nothing.
use Rattle.std.proofs.Common.{◌≡◌, ◌≤◌, false, List, length, take}
use Rattle.locks.specs.Lists.{any}
use Rattle.locks.specs.Rows.{conflict}
use Rattle.locks.specs.declared.rows.Row.{Row}
use Rattle.locks.specs.Cells.{Shows, Tells}
use Rattle.locks.proofs.cells.waits_behind.Given as goal

abbrev pub invariant-loop-i : goal.invariant-loop-i
invariant-loop-i l = (rows : List Row) (q : Row) → Shows l.t rows → l.n ≤ length rows → Tells l.c q → any (conflict q) (take l.i rows) ≡ false
