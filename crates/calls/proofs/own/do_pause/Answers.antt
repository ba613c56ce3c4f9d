-- `calls::own::do_pause` meets its contract. Assumes nothing.
use mathlib.Core.Path.{refl}
use mathlib.Core.List.{[], ◌∷◌}
use Rattle.rules.specs.State.{for_signal, asleep_for}
use Rattle.rules.specs.Calls.{own_call}
use Rattle.places.specs.Places.{SLEEP, SECONDS, numbers, whole}
use Rattle.places.specs.Settled.{answer_of}
use Rattle.places.proofs.Turning.{turn_is}
use Rattle.calls.proofs.Doing.{turns, does}
use Rattle.calls.proofs.own.do_pause.Goals as goal

pub returns : goal.returns
unfolding own_call numbers whole
returns c =
    λ e.
    does (answer_of 1 0 0 0) (turn_is (rw c.set.ensures at c.set-2.ensures) (turns (asleep_for for_signal 0) ((SLEEP, for_signal) ∷ (SECONDS, 0) ∷ []) refl (λ p l. (refl, l.whole)))) c.plain.ensures (λ p l. (refl, refl))
