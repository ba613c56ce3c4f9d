-- `locking::locking::grant` meets its contract. The invariant: the first i processes are as `granted` has them, and those who woke are marked. Assumes nothing.
use Prim.Native.Nat.{◌≤◌}
use mathlib.Core.Path.{◌≡◌}
use lib.ListN.{length, get_or}
use Rattle.rules.specs.State.{granted}
use Rattle.locks.specs.Cells.{Rows}
use Rattle.places.specs.Places.{machine, LIVE, ROWS}
use Rattle.locking.proofs.Sweep.{Sweep}
use Rattle.locking.proofs.locking.grant.Given as goal

abbrev pub invariant-loop-i : goal.invariant-loop-i
invariant-loop-i l =
    Sweep (granted (machine l.initial.m l.t).rows) (machine l.initial.m l.t).procs (length (machine l.initial.m l.t).rows) (machine l.initial.m l.t).next l.m (get_or l.initial.m LIVE 0) l.woken l.bit l.i × Rows l.t (machine l.initial.m l.t).rows × (l.used ≤ ROWS) × (length (machine l.initial.m l.t).rows ≡ l.used)
