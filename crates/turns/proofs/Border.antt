-- What is settled in the arrays is a turn of the state that they hold; and who calls. Assumes nothing.
use Prim.Native.Nat.{ℕ, ◌+◌, ◌*◌, ◌<◌}
use native.Mathlib.Omega.{arith}
use mathlib.Core.Path.{◌≡◌, refl, sym, ap, ◌∙◌}
use mathlib.Core.Bool.{true, false, not, and-eq-true_iff}
use mathlib.Core.List.{List}
use lib.ListN.{get_or}
use borrow.Author.Tests.{eq-eqb, ne_eqb}
use Rattle.rules.specs.State.{Machine, view, laid, lives, pids, process_of, sleeps}
use Rattle.rules.specs.Outcome.{Outcome, refused, answered, when, either, refusal, badstate}
use Rattle.rules.specs.Sound.{sound_machine, sound}
use Rattle.rules.specs.Step.{outcome, settled, step_of}
use Rattle.rules.specs.declared.state.State.{State}
use Rattle.rules.specs.declared.state.Event.{Event}
use Rattle.rules.specs.declared.state.Stepped.{Stepped}
use Rattle.rules.proofs.States.{view-laid, sound-stays}
use Rattle.places.specs.Places.{place_of, Calls, LIVE, PLACE, SLEEP, caller, machine, numbers, procs_in}
use Rattle.signals.proofs.Found.{found_at, found-live, found_none, found-process}
use Rattle.signals.proofs.Arriving.{in-procs}
use Rattle.places.specs.Settled.{Settled, after, answer_to}
use Rattle.rules.specs.Reply.{four_of}
use Rattle.turns.specs.Turn.{Holds, Turned, state_in}
use Rattle.places.proofs.Laying.{lays_back, procs-get, procs-live}
use Rattle.places.proofs.Laying as laying

abbrev Same : State → Outcome Machine → Type 0
Same s o = settled s o ≡ record { answer = answer_to (view s) o; state = laid (after (view s) o) }

-- of a state that is its machine laid out
settled_same : (s : State) → s ≡ laid (view s) → (o : Outcome Machine) → Same s o
unfolding settled
settled_same s e (refused r) = λ i. record { answer = refusal r; state = e i }
settled_same s e (answered k d3 a0 m) = refl
settled_same s e (when true r o) = λ i. record { answer = refusal r; state = e i }
settled_same s e (when false r o) = settled_same s e o
settled_same s e (either true x y) = settled_same s e x
settled_same s e (either false x y) = settled_same s e y

pub step_is : (s : Machine) (e : Event) → sound (laid s) ≡ true → step_of (laid s) e ≡ record { answer = answer_to s (outcome e s); state = laid (after s (outcome e s)) }
unfolding step_of
step_is s e h =
    let a = settled_same (laid s) (ap laid (sym (view-laid s))) (when false badstate (outcome e s)) in
    rw (h, view-laid s) (rw (view-laid s) at a)

pub turned : {m t : List ℕ} (e : Event) {out v u : List ℕ} → Holds m t → Settled (machine m t) (outcome e (machine m t)) out v u → Turned m t e out v u
unfolding state_in
turned {m} {t} e {out} {v} {u} h s =
    let k = step_is (machine m t) e h.sound in
    let q : state_in v u ≡ (step_of (state_in m t) e).state = ap laid (lays_back s.lays) ∙ sym (ap (λ (r : Stepped). r.state) k) in
    record {
      holds = record { laid = laying.laid s.lays; sound = rw q (sound-stays.next (state_in m t) e h.sound) };
      state = q;
      answer = s.answer ∙ ap four_of (sym (ap (λ (r : Stepped). r.answer) k));
    }

pub holds-machine : {m t : List ℕ} → Holds m t → sound_machine (machine m t) ≡ true
unfolding state_in sound
holds-machine {m} {t} h = rw (view-laid (machine m t)) at (simp and-eq-true_iff at h.sound).1

-- ---- no process of that PID, and the place of the one that there is

module _ {m t : List ℕ} (h : Holds m t) (n : ℕ) where
  pub not_live : get_or m LIVE 0 ≡ place_of n (pids (procs_in m)) → lives (machine m t) n ≡ false
  not_live f = found_none (machine m t) n (found_at n h.laid.lays f) (procs-live h.laid.lays.procs)

  module _ {k : ℕ} (b : k < get_or m LIVE 0) (f : k ≡ place_of n (pids (procs_in m))) where
    at : k ≡ place_of n (pids (machine m t).procs)
    at = found_at n h.laid.lays f

    pub is-caller : caller m t k ≡ process_of (machine m t) n
    is-caller = found-process (machine m t) n at

    pub is_live : lives (machine m t) n ≡ true
    is_live = found-live (machine m t) n at (in-procs h.laid b)

    module _ {x : ℕ} (e : x ≡ get_or m (k * PLACE + SLEEP) 0) where
      sleep-is : (caller m t k).rest.sleep ≡ x
      unfolding numbers
      sleep-is = sym (e ∙ procs-get h.laid.lays.procs k (in-procs h.laid b) SLEEP (omega arith))

      pub is-asleep : (x ≡ 0 → ⊥) → sleeps (caller m t k) ≡ true
      is-asleep z = ap not (ne_eqb (caller m t k).rest.sleep 0 (λ g. z (sym sleep-is ∙ g)))

      pub is-awake : x ≡ 0 → sleeps (caller m t k) ≡ false
      is-awake z = ap not (eq-eqb (caller m t k).rest.sleep 0 (sleep-is ∙ z))

      pub calls : x ≡ 0 → Calls m t k
      calls z = record { laid = h.laid; sound = holds-machine h; stands = b; awake = is-awake z }
