-- `calls::own::set_prior` meets its contract. Assumes nothing.
use mathlib.Core.Path.{refl}
use mathlib.Core.List.{[], ◌∷◌}
use borrow.Author.Tests.{eq-eqb, ne_eqb, le-leb, lt-leb}
use Rattle.rules.specs.State.{with_priority}
use Rattle.rules.specs.Outcome.{badcall, priv}
use Rattle.rules.specs.Calls.{set_prior}
use Rattle.places.specs.Places.{PRIORITY, numbers, whole}
use Rattle.places.specs.Settled.{answer_of}
use Rattle.places.proofs.Turning.{turn_is}
use Rattle.calls.proofs.Doing.{turns, does, refuses, privileged-is}
use Rattle.calls.proofs.own.set_prior.Goals as goal
use Rattle.calls.proofs.own.set_prior.Goals.{else-d3-ge-NEGATIVE-via-then-d3-ge-NEGATIVE+else-of-ne0, else-d3-ge-NEGATIVE-via-else-d3-ge-NEGATIVE}

pub returns-then-not-in_priority : goal.returns-then-not-in_priority
unfolding set_prior
returns-then-not-in_priority c =
    λ e h.
    refuses badcall (λ p l. rw (h, ← c.in_priority.ensures, c.if-not-in_priority.true) (refl, refl))

pub returns-then-of-ne0 : goal.returns-then-of-ne0
unfolding set_prior
returns-then-of-ne0 c =
    λ e h.
    refuses priv
    (λ p l. rw (h, ← c.in_priority.ensures, c.if-not-in_priority.false, le-leb _ _ c.if-d3-ge-NEGATIVE.true, privileged-is l c.of.ensures, ne_eqb _ 0 c.if-of-ne0.true) (refl, refl))

pub returns : goal.returns
unfolding set_prior numbers whole
returns c =
    λ e h.
    let d3 = c.args.d3 in
    does (answer_of 0 0 0 0) (turn_is c.set.ensures (turns (with_priority d3) ((PRIORITY, d3) ∷ []) refl (λ p l. (refl, l.whole)))) c.plain.ensures
    (λ p l.
    elim c.else-d3-ge-NEGATIVE.branch [
      | else-d3-ge-NEGATIVE-via-then-d3-ge-NEGATIVE+else-of-ne0 w ↦
          rw (h, ← c.in_priority.ensures, c.if-not-in_priority.false, le-leb _ _ w.if-d3-ge-NEGATIVE.true, privileged-is l w.of.ensures, eq-eqb _ 0 w.if-of-ne0.false) (refl, refl)
      | else-d3-ge-NEGATIVE-via-else-d3-ge-NEGATIVE w ↦ rw (h, ← c.in_priority.ensures, c.if-not-in_priority.false, lt-leb _ _ w.if-d3-ge-NEGATIVE.false) (refl, refl)
    ])
