-- Take: the lowest pending signal, and its trap handed out. Assumes nothing.
use Prim.Native.Nat.{ℕ, ◌+◌, ◌-◌, ◌*◌, ◌%◌, ◌^◌, ◌≤◌, ◌<◌}
use native.Mathlib.Omega.{arith}
use mathlib.Core.Path.{◌≡◌, refl, sym, ◌∙◌}
use mathlib.Core.Bool.{true, false}
use mathlib.Core.List.{List, [], ◌∷◌}
use lib.Bits.{bit_xor}
use lib.Count.{count_trailing_zeros}
use lib.Dec.{eqb}
use lib.ListN.{get_or, set, get_or-eq_default}
use lib.Seq.{set_out}
use borrow.Author.Tests.{ne_eqb}
use Rattle.std.specs.Int.{w8}
use Rattle.std.proofs.lemmas.Nat.{one_shl}
use Rattle.std.proofs.lemmas.Nat.Bits.{bit_at-trailing_zeros}
use Rattle.rules.specs.State.{with_signals}
use Rattle.rules.specs.Signals.{takes, taken}
use Rattle.rules.specs.declared.state.Process.{Process}
use Rattle.places.specs.Places.{PENDING, PLACE, TRAPS, Turns, numbers, whole}
use Rattle.places.specs.Settled.{answer_of, own_answer, process_after}
use Rattle.calls.proofs.Doing.{Here, turns}
use Rattle.places.proofs.Laying.{entire}
use Rattle.places.proofs.Sevens.{address-get, turn-address}
use Rattle.places.proofs.Turning.{then}

-- the signal is one of eight
pub low : (x : ℕ) → (x ≡ 0 → ⊥) → x < 256 → count_trailing_zeros 8 x < 8
low x n l = (bit_at-trailing_zeros w8 x (omega arith) l).0

-- these traps pending, and the address of trap k is 0
abbrev pub handing : ℕ → ℕ → Process → Process
handing k v p = with_signals (record { reactions = p.signals.reactions; pending = v; traps = set p.signals.traps k 0 }) p

abbrev pending : ℕ → Process → Process
pending v p = with_signals (record { reactions = p.signals.reactions; pending = v; traps = p.signals.traps }) p

none_out : (k : ℕ) (p : Process) → whole p ≡ true → 7 ≤ k → set p.signals.traps k 0 ≡ p.signals.traps
none_out k p w l = set_out p.signals.traps k 0 (let n = (entire p w).traps in omega arith)

module _ {m : List ℕ} {i : ℕ} (k v : ℕ) where
  turn-pending : Turns (pending v) m i (set m (i * PLACE + PENDING) v)
  unfolding numbers whole
  turn-pending = turns (pending v) ((PENDING, v) ∷ []) refl (λ p l. (refl, l.whole))

  pub turn-none : 7 ≤ k → Turns (handing k v) m i (set m (i * PLACE + PENDING) v)
  unfolding numbers whole
  turn-none l = turns (handing k v) ((PENDING, v) ∷ []) refl (λ p h. rw (none_out k p h.whole l) (refl, h.whole))

module _ {m : List ℕ} {i : ℕ} {p : Process} {a : ℕ} (h : Here m i p) (k : ℕ) where
  pub handed-address : k < 7 → a ≡ get_or m (i * PLACE + (TRAPS + k)) 0 → a ≡ get_or p.signals.traps k 0
  handed-address l e = let n : TRAPS + k < PLACE = omega arith in e ∙ h.get (TRAPS + k) n ∙ address-get p h.whole k l

  pub handed-none : 7 ≤ k → a ≡ 0 → a ≡ get_or p.signals.traps k 0
  handed-none l e = e ∙ sym (get_or-eq_default p.signals.traps 0 (let n = (entire p h.whole).traps in omega arith))

pub turn-handed : {m : List ℕ} {i : ℕ} (k v : ℕ) → k < 7 → Turns (handing k v) m i (set (set m (i * PLACE + (TRAPS + k)) 0) (i * PLACE + PENDING) v)
turn-handed k v l = then (turn-address k l 0) (turn-pending k v)

-- what the code makes of the caller is what the rule makes of it
pub handed : (p : Process) (x a : ℕ) → x ≡ p.signals.pending → (x ≡ 0 → ⊥) → count_trailing_zeros 8 x < 8 → a ≡ get_or p.signals.traps (count_trailing_zeros 8 x) 0
    → (process_after p (taken p) ≡ handing (count_trailing_zeros 8 x) (bit_xor x ((1 * 2 ^ count_trailing_zeros 8 x) % 2 ^ 8)) p) × (own_answer (taken p) ≡ answer_of 0 0 (count_trailing_zeros 8 x + 1) a)
unfolding taken takes
handed p x a e z l f =
    let k = count_trailing_zeros 8 x in
    let t : eqb p.signals.pending 0 ≡ false = ne_eqb _ 0 (λ j. z (e ∙ j)) in
    let d : k + 1 - 1 ≡ k = omega arith in
    rw (t, ← e, one_shl k 8 l, d, f) (refl, refl)
