-- A trap becomes pending, and a sleeper wakes. Assumes nothing.
use Prim.Native.Nat.{ℕ, ◌+◌, ◌-◌, ◌*◌, ◌%◌, ◌^◌, ◌≤◌, ◌<◌}
use native.Mathlib.Nat.{mod-eq_of_lt}
use native.Mathlib.Omega.{arith}
use mathlib.Core.Path.{◌≡◌, refl, sym, ◌∙◌}
use mathlib.Core.List.{List, ◌∷◌, []}
use lib.Bits.{bit_or}
use lib.ListN.{get_or, set}
use lib.Pow.{pow_mono}
use borrow.Author.Tests.{eq-eqb, ne_eqb}
use Rattle.rules.specs.State.{no_process, awake, ignore, by_signal, with_signals, woken_by}
use Rattle.rules.specs.Signals.{roused, trapped}
use Rattle.rules.specs.declared.state.Process.{Process}
use Rattle.places.specs.Places.{LEFT, PENDING, PLACE, SECONDS, SLEEP, Turns, WAKE, numbers, waked, whole}
use Rattle.places.proofs.Laying.{procs-get}
use Rattle.places.proofs.Sevens.{addressing, reacting}
use Rattle.places.proofs.Turning.{at-whole, then, turned, unturned}

-- ---- the pending set

abbrev pending_bit : ℕ → Process → Process
pending_bit k p = with_signals (record { reactions = p.signals.reactions; pending = bit_or p.signals.pending (2 ^ k); traps = p.signals.traps }) p

pub turn-pending : {m : List ℕ} {i x : ℕ} (k : ℕ) → k < 7 → x ≡ get_or m (i * PLACE + PENDING) 0 → Turns (pending_bit k) m i (set m (i * PLACE + PENDING) (bit_or x ((1 * 2 ^ k) % 4294967296)))
unfolding numbers whole
turn-pending {m} {i} {x} k l e =
    record {
      is = λ {ps} c h.
          let o : x ≡ (get_or ps i no_process).signals.pending = e ∙ procs-get c i h PENDING (omega arith) in
          turned c h (pending_bit k) ((PENDING, bit_or x ((1 * 2 ^ k) % 4294967296)) ∷ []) refl (rw (bit, o)) (at-whole c h);
    }
  where
    bit : (1 * 2 ^ k) % 4294967296 ≡ 2 ^ k
    bit =
        let b : k ≤ 6 = omega arith in
        let g : 2 ^ k ≤ 2 ^ 6 = pow_mono b in
        let f : 1 * 2 ^ k ≡ 2 ^ k = omega arith in
        rw f (mod-eq_of_lt (omega arith))

-- ---- a sleeper wakes

module _ {m : List ℕ} {i x : ℕ} (e : x ≡ get_or m (i * PLACE + SLEEP) 0) where
  pub rouse-none : x ≡ awake → Turns roused m i m
  unfolding numbers roused
  rouse-none z = record { is = λ {ps} c h. unturned c h roused (rw (eq-eqb (get_or ps i no_process).rest.sleep awake (sym (e ∙ procs-get c i h SLEEP (omega arith)) ∙ z))) }

  pub rouse-woken : {y : ℕ} → (x ≡ awake → ⊥) → y ≡ get_or m (i * PLACE + SECONDS) 0 → Turns roused m i (waked m i by_signal y)
  unfolding numbers roused whole
  rouse-woken {y} z g =
      record {
        is = λ {ps} c h.
            let q = get_or ps i no_process in
            let b : roused q ≡ woken_by by_signal y q = rw (ne_eqb q.rest.sleep awake (λ j. z (e ∙ procs-get c i h SLEEP (omega arith) ∙ j)), g ∙ procs-get c i h SECONDS (omega arith)) in
            turned c h roused ((SLEEP, awake) ∷ (WAKE, by_signal) ∷ (SECONDS, 0) ∷ (LEFT, y) ∷ []) refl (rw b) (rw b (at-whole c h));
      }

-- ---- one after another

pub trap-turns : {m u v w z : List ℕ} {i : ℕ} (s a : ℕ) → Turns (pending_bit (s - 1)) m i u → Turns (addressing (s - 1) a) u i v → Turns (reacting (s - 1) ignore) v i w → Turns roused w i z → Turns (trapped s a) m i z
unfolding trapped
trap-turns s a p q r o = then (then (then p q) r) o
