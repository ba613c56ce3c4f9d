use native.Mathlib.Omega.{arith}
use mathlib.Core.Path.{◌∙◌}
use Rattle.signals.proofs.Seconds.{second}
use Rattle.places.proofs.Turning.{then}
use Rattle.signals.proofs.Elapsing.{second_is}
use Rattle.locking.proofs.Sweep.{sweep, sweep-turn, swept}
use Rattle.signals.proofs.clock.second.Goals as goal
use Rattle.signals.proofs.clock.second.Goals.{else-lose_second, then-lose_second}

pub loop-i-init : goal.loop-i-init
loop-i-init c = sweep second c.requires.procs

pub loop-i-preserved : goal.loop-i-preserved
loop-i-preserved c =
    let k = c.loop-i.invariant in
    let l = c.loop-i-test.true in
    let y = c.lose_second.ensures in
    sweep-turn k l (then y.0 c.lose_alarm.ensures) (second_is _)
    (elim c.if-lose_second.branch [ then-lose_second w ↦ w.woken-is ∙ rw w.if-lose_second.true | else-lose_second w ↦ w.woken-is ∙ rw w.if-lose_second.false (omega arith) ]) y.1

pub returns : goal.returns
returns c =
    let v = c.loop-i.invariant in
    let h = swept v c.loop-i-test.false in
    record { procs = h.0; woken = h.1; few = v.few }
