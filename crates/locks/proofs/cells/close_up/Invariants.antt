-- `cells::close_up` meets its contract: those that stay of the first i rows stand first. Assumes nothing.
use Rattle.std.proofs.Common.{◌≡◌, ◌≤◌, List, length, take}
use Rattle.locks.specs.declared.rows.Row.{Row}
use Rattle.locks.specs.Cells.{Rows, Names, staying}
use Rattle.locks.proofs.Gaps.{Gap}
use Rattle.locks.proofs.cells.close_up.Given as goal

abbrev pub invariant-loop-i : goal.invariant-loop-i
invariant-loop-i l =
    (l.k ≤ l.i) × ((rows : List Row) (r : Row) → Rows l.initial.t rows → length rows ≡ l.used → Names l.part l.c r → Gap l.t (staying l.part r (take l.i rows)) rows l.k l.i)
