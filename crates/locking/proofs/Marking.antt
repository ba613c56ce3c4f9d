-- A mask that grows as a loop goes on. Assumes nothing.
use Prim.Native.Nat.{ℕ, ◌+◌, ◌*◌, ◌^◌, ◌≤◌, ◌<◌}
use native.Mathlib.Nat.{pow-succ'}
use native.Mathlib.Omega.{arith}
use native.Mathlib.Numerals.{add-one}
use mathlib.Core.Path.{◌≡◌, refl, ◌∙◌}
use mathlib.Core.Bool.{Bool, true, false, cond}
use mathlib.Core.List.{List, [], ◌∷◌, ◌++◌}
use lib.ListN.{length, get_or, take}
use lib.Seq.{take-suc, length-take-le}
use lib.Pow.{pow_mono}
use Rattle.locks.specs.Lists.{mask}
use Rattle.rules.proofs.Numbers.{mask-small}
use Rattle.rules.specs.declared.state.Process.{Process}

mask-last : (f : Process → Bool) (xs : List Process) (p : Process) → mask f (xs ++ p ∷ []) ≡ mask f xs + cond (f p) (2 ^ length xs) 0
mask-last f [] p = go (f p)
  where
    go : (b : Bool) → cond b 1 0 + 2 * 0 ≡ 0 + cond b (2 ^ 0) 0
    go true = refl
    go false = refl
mask-last f (x ∷ xs) p = rw (mask-last f xs p, pow-succ' 2 (length xs)) (go (f p) (cond (f x) 1 0) (mask f xs) (2 ^ length xs))
  where
    go : (b : Bool) (a m q : ℕ) → a + 2 * (m + cond b q 0) ≡ (a + 2 * m) + cond b (2 * q) 0
    go true a m q = omega arith
    go false a m q = omega arith

-- w is the mask of the first i, and bit the place of the next
pub record Marked (f : Process → Bool) (ps : List Process) (w bit i : ℕ) : Type 0 where
  pub is : w ≡ mask f (take i ps)
  pub bits : bit ≡ 2 ^ i

pub marked : (f : Process → Bool) (ps : List Process) → Marked f ps 0 1 0
marked f ps = record { is = refl; bits = refl }

module _ {f : Process → Bool} {ps : List Process} {w bit i : ℕ} (m : Marked f ps w bit i) where
  pub mark : {v : ℕ} {b : Bool} (d : Process) → i < length ps → v ≡ w + cond b bit 0 → b ≡ f (get_or ps i d) → Marked f ps v (bit * 2) (i + 1)
  mark {v} {b} d l e h =
      record {
        is =
            e
            ∙ rw (m.is, m.bits, h, add-one i, take-suc ps i d l, mask-last f (take i ps) (get_or ps i d), length-take-le i ps (omega arith));
        bits = rw (m.bits, add-one i, pow-succ' 2 i) (omega arith);
      }

  pub mark-bit : i ≤ 16 → bit ≤ 65536
  mark-bit h = rw m.bits (pow_mono h)

  pub mark-small : i ≤ 16 → i ≤ length ps → w < 65536
  mark-small h l =
      let e : length (take i ps) ≡ i = length-take-le i ps l in
      rw m.is (mask-small f (take i ps) (omega arith))
