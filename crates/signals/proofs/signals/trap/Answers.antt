use Prim.Native.Nat.{◌-◌, ◌<◌}
use native.Mathlib.Omega.{arith}
use Rattle.rules.specs.State.{ignore}
use Rattle.places.proofs.Turning.{turn_is}
use Rattle.places.proofs.Sevens.{turn-address, turn-reaction}
use Rattle.signals.proofs.Traps.{turn-pending, trap-turns}
use Rattle.signals.proofs.signals.trap.Goals as goal

pub returns : goal.returns
returns c =
    let k = c.args.signal.number - 1 in
    let l : k < 7 = omega arith in
    trap-turns c.args.signal.number c.args.a (turn_is c.set.ensures (turn-pending k l c.of-pending.ensures)) (turn_is c.set-2.ensures (turn-address k l c.args.a)) (turn_is c.set-3.ensures (turn-reaction k l ignore)) c.rouse.ensures
