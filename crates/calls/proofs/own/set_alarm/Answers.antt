-- `calls::own::set_alarm` meets its contract. Assumes nothing.
use mathlib.Core.Path.{refl}
use mathlib.Core.List.{[], ◌∷◌}
use Rattle.rules.specs.State.{with_alarm}
use Rattle.rules.specs.Calls.{own_call}
use Rattle.places.specs.Places.{ALARM, numbers, whole}
use Rattle.places.specs.Settled.{answer_of}
use Rattle.places.proofs.Turning.{turn_is}
use Rattle.calls.proofs.Doing.{turns, does}
use Rattle.calls.proofs.own.set_alarm.Goals as goal

pub returns : goal.returns
unfolding own_call numbers whole
returns c =
    λ e h.
    let d3 = c.args.d3 in
    does (answer_of 0 0 0 0) (turn_is c.set.ensures (turns (with_alarm d3) ((ALARM, d3) ∷ []) refl (λ p l. (refl, l.whole)))) c.plain.ensures (λ p l. rw h (refl, refl))
