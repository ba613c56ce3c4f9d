-- `cells::stands` meets its contract: none of the first i rows is a twin, and standing says whether one conflicts. Assumes nothing.
use Rattle.std.proofs.Common.{◌≡◌, false, cond, List, length, take}
use Rattle.locks.specs.Lists.{any}
use Rattle.locks.specs.Rows.{twin, conflict}
use Rattle.locks.specs.declared.rows.Row.{Row}
use Rattle.locks.specs.declared.rows.Standing.TheVariants.{Waits, Free}
use Rattle.locks.specs.Cells.{Shows, Tells}
use Rattle.locks.proofs.cells.stands.Given as goal

abbrev pub invariant-loop-i : goal.invariant-loop-i
invariant-loop-i l =
    (rows : List Row) (r : Row) → Shows l.t rows → length rows ≡ l.used → Tells l.c r → (any (twin r) (take l.i rows) ≡ false) × (l.standing ≡ cond (any (conflict r) (take l.i rows)) Waits Free)
