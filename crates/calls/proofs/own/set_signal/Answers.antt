-- `calls::own::set_signal` meets its contract. Assumes nothing.
use Prim.Native.Nat.{ℕ, ◌+◌, ◌-◌, ◌<◌}
use native.Mathlib.Omega.{arith}
use mathlib.Core.Path.{◌≡◌, refl, sym, ap, ◌∙◌}
use mathlib.Core.Bool.{true, false, ◌||◌}
use lib.Dec.{eqb}
use borrow.Author.Tests.{eq-eqb, ne_eqb}
use Rattle.rules.specs.Outcome.{badcall}
use Rattle.rules.specs.Calls.{set_signal}
use Rattle.places.specs.Places.{REACTIONS, PLACE}
use Rattle.places.specs.Settled.{answer_of}
use Rattle.std.proofs.lemmas.Grind.{common_steps}
use Rattle.places.proofs.Turning.{turn_is}
use Rattle.places.proofs.Sevens.{reaction-get, turn-reaction}
use Rattle.calls.specs.Own.{wrong_signal}
use Rattle.calls.proofs.Doing.{does, refuses, pid-is}
use Rattle.calls.proofs.own.set_signal.Goals as goal
use Rattle.calls.proofs.own.set_signal.Goals.{then-bad_signal-via-then-bad_signal, then-bad_signal-via-else-bad_signal+then-of-eq1}

pub returns-then-bad_signal : goal.returns-then-bad_signal
unfolding set_signal
returns-then-bad_signal c =
    λ e h a.
    refuses badcall
    (λ p l.
    let bad : (wrong_signal c.args.d2 || eqb p.pid 1) ≡ true =
    elim c.then-bad_signal.branch [
      | then-bad_signal-via-then-bad_signal w ↦ rw (← c.bad_signal.ensures, w.if-bad_signal.true)
      | then-bad_signal-via-else-bad_signal+then-of-eq1 w ↦ rw (← c.bad_signal.ensures, w.if-bad_signal.false, eq-eqb p.pid 1 (sym (pid-is l w.of.ensures) ∙ w.if-of-eq1.true))
    ] in
    rw (h, bad) (refl, refl))

pub returns : goal.returns
unfolding set_signal
returns c =
    λ e h a.
    let k = c.args.d2 - 1 in
    let b : k < 7 = grind (arith, common_steps) in
    let n : REACTIONS + k < PLACE = omega arith in
    does (answer_of 0 0 0 c.of-old.result) (turn_is c.set.ensures (turn-reaction k b c.args.a0)) c.plain.ensures
    (λ p l.
    let good : (wrong_signal c.args.d2 || eqb p.pid 1) ≡ false = rw (← c.bad_signal.ensures, c.if-bad_signal.false, ne_eqb p.pid 1 (λ x. c.if-of-eq1.false (pid-is l c.of.ensures ∙ x))) in
    rw (h, a, good) (refl, ap (λ (v : ℕ). answer_of 0 0 0 v) (sym (c.of-old.ensures ∙ l.get (REACTIONS + k) n ∙ reaction-get p l.whole k b))))
