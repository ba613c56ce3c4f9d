-- `calls::own::do_sleep` meets its contract. Assumes nothing.
use mathlib.Core.Path.{refl}
use mathlib.Core.List.{[], ◌∷◌}
use borrow.Author.Tests.{eq-eqb, ne_eqb}
use Rattle.rules.specs.State.{for_time, asleep_for}
use Rattle.rules.specs.Calls.{do_sleep}
use Rattle.places.specs.Places.{SLEEP, SECONDS, numbers, whole}
use Rattle.places.specs.Settled.{answer_of}
use Rattle.places.proofs.Turning.{turn_is}
use Rattle.calls.proofs.Doing.{turns, still, does}
use Rattle.calls.proofs.own.do_sleep.Goals as goal

pub returns-then-d3-eq0 : goal.returns-then-d3-eq0
unfolding do_sleep
returns-then-d3-eq0 c =
    λ e h.
    does (answer_of 0 0 0 0) still c.plain.ensures (λ p l. rw (h, eq-eqb _ 0 c.if-d3-eq0.true) (refl, refl))

pub returns : goal.returns
unfolding do_sleep numbers whole
returns c =
    λ e h.
    let d3 = c.args.d3 in
    does (answer_of 1 0 0 0) (turn_is (rw c.set.ensures at c.set-2.ensures) (turns (asleep_for for_time d3) ((SLEEP, for_time) ∷ (SECONDS, d3) ∷ []) refl (λ p l. (refl, l.whole)))) c.plain-2.ensures
    (λ p l. rw (h, ne_eqb _ 0 c.if-d3-eq0.false) (refl, refl))
