-- Sixteen bytes as one number: those that are left behind some. Assumes nothing.
use Prim.Native.Nat.{ℕ, zero, suc, ◌+◌, ◌*◌, ◌/◌, ◌^◌, ◌<◌}
use native.Mathlib.Nat.{div-div-eq-div-mul, zero-div}
use native.Mathlib.Omega.{arith}
use mathlib.Core.Path.{◌≡◌, refl, ap, ◌∙◌}
use mathlib.Core.Bool.{true, ◌&&◌}
use mathlib.Core.List.{List, [], ◌∷◌}
use lib.Dec.{eqb}
use lib.ListN.{length, drop}
use lib.Seq.{take_all}
use lib.Pow.{pow-add}
use borrow.Author.Tests.{ne_eqb, eqb-true, eqb-false, ltb-true}
use Rattle.std.specs.Int.{w128, from_le_bytes}
use Rattle.locks.specs.Lists.{all, is_zero}
use Rattle.locks.specs.Words.{is_byte, value}
use Rattle.locks.proofs.Tests.{cases, and_split}
use Rattle.locks.proofs.Bytes.{bytes_from, bytes-from}

shifted : (n : ℕ) (xs : List ℕ) → all is_byte xs ≡ true → value xs / 2 ^ (n * 8) ≡ value (drop n xs)
shifted zero xs h = omega arith
shifted (suc n) [] h = zero-div (2 ^ (suc n * 8))
shifted (suc n) (b ∷ xs) h =
    let s = and_split (is_byte b) (all is_byte xs) h in
    let l : b < 256 = ltb-true b 256 s.0 in
    let e : suc n * 8 ≡ 8 + n * 8 = omega arith in
    let d : (b + 256 * value xs) / 256 ≡ value xs = omega arith in
    rw (e, pow-add 2 8 (n * 8), ← div-div-eq-div-mul (b + 256 * value xs) 256 (2 ^ (n * 8)), d) (shifted n xs s.1)

zero-digit : (b v : ℕ) → is_zero (b + 256 * v) ≡ (is_zero b && is_zero v)
zero-digit b v =
    cases (eqb b 0)
    (λ e. cases (eqb v 0)
    (λ f. rw (eqb-true b 0 e, eqb-true v 0 f) refl)
    (λ f. let d : v ≡ 0 → ⊥ = eqb-false v 0 f in rw (e, f) (ne_eqb (b + 256 * v) 0 (λ z. d (omega arith)))))
    (λ e. let d : b ≡ 0 → ⊥ = eqb-false b 0 e in rw e (ne_eqb (b + 256 * v) 0 (λ z. d (omega arith))))

zero-value : (xs : List ℕ) → is_zero (value xs) ≡ all is_zero xs
zero-value [] = refl
zero-value (b ∷ xs) = rw (zero-digit b (value xs), zero-value xs)

whole : (x : List ℕ) → length x ≡ 16 → from_le_bytes w128 x ≡ value x
whole x l =
    let e : from_le_bytes w128 x ≡ value (bytes_from 16 0 x) = omega arith in
    e ∙ ap value (bytes-from 16 0 x (omega arith) ∙ take_all 16 x (omega arith))

pub ends : (n : ℕ) (x : List ℕ) → length x ≡ 16 → all is_byte x ≡ true → is_zero (from_le_bytes w128 x / 2 ^ (n * 8)) ≡ all is_zero (drop n x)
ends n x l h = rw (whole x l, shifted n x h) (zero-value (drop n x))
