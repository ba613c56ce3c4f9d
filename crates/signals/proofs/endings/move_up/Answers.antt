use Prim.Native.Nat.{◌+◌, ◌-◌, ◌*◌, ◌<◌}
use native.Mathlib.Omega.{arith}
use mathlib.Core.Path.{◌≡◌}
use lib.ListN.{length}
use Rattle.places.specs.Places.{PLACE, procs_in}
use Rattle.places.proofs.Laying.{procs-live}
use Rattle.signals.proofs.Moving.{moving, move_up, move-none, move-gone, moved}
use Rattle.signals.proofs.endings.move_up.Goals as goal
use Rattle.signals.proofs.endings.move_up.Goals.{else-of-pid, then-of-pid, then-k-i, else-k-i}

pub loop-i-init : goal.loop-i-init
loop-i-init c = moving _ c.requires.procs

pub loop-i-preserved : goal.loop-i-preserved
loop-i-preserved c =
    let v = c.loop-i.invariant in
    let i = c.loop-i.i in
    let e = c.of.ensures in
    let few = c.requires.procs.few in
    let b : i < length (procs_in c.args.m.now) = omega (arith, procs-live c.requires.procs) in
    let wide : (i + 1) * PLACE - i * PLACE ≡ PLACE = omega arith in
    elim c.if-of-pid.branch [
      | then-of-pid w ↦ rw (w.m-is, w.k-is) (elim w.if-k-i.branch [
        | then-k-i u ↦ rw (u.m-is, u.copy_within.ensures.after, wide) (move_up v few b e w.if-of-pid.true u.if-k-i.true)
        | else-k-i u ↦ rw u.m-is (move-none v few b e w.if-of-pid.true u.if-k-i.false)
      ])
      | else-of-pid w ↦ rw (w.m-is, w.k-is) (move-gone v few b e w.if-of-pid.false)
    ]

pub returns : goal.returns
returns c = moved c.requires c.loop-i.invariant (omega arith)
