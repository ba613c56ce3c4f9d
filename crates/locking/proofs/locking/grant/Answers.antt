-- `locking::locking::grant` meets its contract. The invariant: the first i processes are as `granted` has them, and those who woke are marked. Assumes nothing.
use mathlib.Core.Path.{sym}
use Rattle.rules.specs.State.{rows_left}
use Rattle.places.proofs.Laying.{procs-used}
use Rattle.locks.proofs.Telling.{rows-shows}
use Rattle.locking.proofs.Sweep.{sweep, swept, grant-woken, grant-stays}
use Rattle.locking.proofs.locking.grant.Goals as goal
use Rattle.locking.proofs.locking.grant.Goals.{then-is_granted, else-is_granted}

pub loop-i-init : goal.loop-i-init
loop-i-init c = let l = c.requires in (sweep _ l.lays.procs, l.lays.rows, l.used, sym (procs-used l.lays.procs))

pub loop-i-preserved : goal.loop-i-preserved
loop-i-preserved c =
    let v = c.loop-i.invariant in
    let l = c.loop-i-test.true in
    let s = rows-shows v.1 in (
      elim c.if-is_granted.branch [
        | then-is_granted w ↦ rw (w.m-is, w.woken-is, w.wake.ensures) (grant-woken _ v.0 l v.3 s c.is_granted.ensures w.if-is_granted.true)
        | else-is_granted w ↦ rw (w.m-is, w.woken-is) (grant-stays _ v.0 l v.3 s c.is_granted.ensures w.if-is_granted.false)
      ],
      v.1,
      v.2,
      v.3,
    )

pub returns : goal.returns
unfolding rows_left
returns c =
    let h = swept c.loop-i.invariant.0 c.loop-i-test.false in
    let v = c.loop-i.invariant in
    record { lays = record { procs = h.0; rows = v.1; used = rw v.3 v.2 }; woken = h.1; few = c.loop-i.invariant.0.few }
