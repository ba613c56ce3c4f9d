-- The bytes of a sequence as two numbers, cut at its length. Assumes nothing.
use Prim.Native.Nat.{ℕ, zero, suc, ◌+◌, ◌-◌, ◌*◌, ◌%◌, ◌^◌, ◌≤◌, ◌<◌}
use native.Mathlib.Nat.{add-mul-mod_self_left, mod-eq_of_lt, mul-add, mul_assoc}
use native.Mathlib.Omega.{arith}
use mathlib.Core.Path.{◌≡◌, refl, sym, ap, ◌∙◌}
use mathlib.Core.Bool.{Bool, true, false, cond, not, ◌&&◌, ◌||◌, or-false, or-true}
use mathlib.Core.List.{List, [], ◌∷◌, ◌++◌}
use lib.Dec.{eqb, leb}
use lib.ListN.{length, take, drop, replicate, length-append, length-replicate, length-drop}
use lib.Seq.{length-take-le, take-nil, drop_at}
use lib.Pow.{pow-add, pow_mono, pow_pos}
use borrow.Author.Tests.{ltb-true, eqb-true, le-leb, eq-eqb, leb-true, not-false}
use Rattle.locks.specs.Lists.{padded, all, between, is_zero}
use Rattle.locks.proofs.Tests.{and_split, and-join, or_off}
use Rattle.locks.proofs.Lists.{all_append, all_replicate, all_drop}
use Rattle.locks.specs.Words.{is_byte, value, fit_row, Worded}
use Rattle.locks.proofs.Fewer.{fewer-all, fewer-take}
use Rattle.rules.specs.Calls.{bad_sequence, row_of}
use Rattle.rules.specs.declared.state.Process.{Process}
use Rattle.rules.specs.declared.state.Event.{Event}
use Rattle.locks.specs.Cells.{SHARED, Tells, whole_row, words}
use Rattle.places.specs.Settled.{Sequence}
use Rattle.locks.specs.declared.cells.Cell.{Cell}

-- ---- the first n bytes

value-small : (xs : List ℕ) → all is_byte xs ≡ true → value xs < 2 ^ (length xs * 8)
value-small [] h = omega arith
value-small (x ∷ xs) h =
    let s = and_split (is_byte x) (all is_byte xs) h in
    let l : x < 256 = ltb-true x 256 s.0 in
    let r = value-small xs s.1 in
    let e : suc (length xs) * 8 ≡ 8 + length xs * 8 = omega arith in
    rw (e, pow-add 2 8 (length xs * 8)) (omega arith)

value-split : (n : ℕ) (xs : List ℕ) → n ≤ length xs → value xs ≡ value (take n xs) + 2 ^ (n * 8) * value (drop n xs)
value-split zero xs h = omega arith
value-split (suc n) [] h = absurd (omega arith)
value-split (suc n) (x ∷ xs) h =
    let e : suc n * 8 ≡ 8 + n * 8 = omega arith in
    rw (e, pow-add 2 8 (n * 8), value-split n xs (omega arith), mul_assoc 256 (2 ^ (n * 8)) (value (drop n xs)), mul-add 256 (value (take n xs)) (2 ^ (n * 8) * value (drop n xs))) (omega arith)

pub value-cut : (n : ℕ) (xs : List ℕ) → n ≤ length xs → all is_byte xs ≡ true → value xs % 2 ^ (n * 8) ≡ value (take n xs)
value-cut n xs h b =
    let l : value (take n xs) < 2 ^ (n * 8) = rw (length-take-le n xs h) at (value-small (take n xs) (fewer-all is_byte (fewer-take n xs) b)) in
    ap (λ (v : ℕ). v % 2 ^ (n * 8)) (value-split n xs h) ∙ add-mul-mod_self_left (value (take n xs)) (2 ^ (n * 8)) (value (drop n xs)) ∙ mod-eq_of_lt l

-- ---- zeros behind them

value-zeros : (zs : List ℕ) → all is_zero zs ≡ true → value zs ≡ 0
value-zeros [] h = refl
value-zeros (z ∷ zs) h = let s = and_split (is_zero z) (all is_zero zs) h in rw (eqb-true z 0 s.0, value-zeros zs s.1)

no_bytes : (j : ℕ) → all is_zero (replicate j 0) ≡ true
no_bytes = all_replicate is_zero 0 refl

low_zeros : (k : ℕ) (xs : List ℕ) (j : ℕ) → value (take k (xs ++ replicate j 0)) ≡ value (take k xs)
low_zeros zero xs j = refl
low_zeros (suc k) [] j = value-zeros (take (suc k) (replicate j 0)) (fewer-all is_zero (fewer-take (suc k) (replicate j 0)) (no_bytes j))
low_zeros (suc k) (x ∷ xs) j = rw (low_zeros k xs j)

high-zeros : (k : ℕ) (xs : List ℕ) (j : ℕ) → value (drop k (xs ++ replicate j 0)) ≡ value (drop k xs)
high-zeros zero [] j = value-zeros (replicate j 0) (no_bytes j)
high-zeros zero (x ∷ xs) j = rw (high-zeros zero xs j)
high-zeros (suc k) [] j = value-zeros (drop (suc k) (replicate j 0)) (all_drop is_zero (suc k) (replicate j 0) (no_bytes j))
high-zeros (suc k) (x ∷ xs) j = high-zeros k xs j

take-swap : (a b : ℕ) (xs : List ℕ) → take a (take b xs) ≡ take b (take a xs)
take-swap zero b xs = sym (take-nil b)
take-swap (suc a) zero xs = take-nil (suc a)
take-swap (suc a) (suc b) [] = refl
take-swap (suc a) (suc b) (x ∷ xs) = rw (take-swap a b xs)

drop-take : (a k : ℕ) (xs : List ℕ) → drop a (take k xs) ≡ take (k - a) (drop a xs)
drop-take zero k xs = let e : k - 0 ≡ k = omega arith in rw e
drop-take (suc a) zero xs = let e : 0 - suc a ≡ 0 = omega arith in rw e
drop-take (suc a) (suc k) [] = sym (take-nil (suc k - suc a))
drop-take (suc a) (suc k) (x ∷ xs) = let e : suc k - suc a ≡ k - a = omega arith in rw e (drop-take a k xs)

-- ---- a shift

pub shifted : (n : ℕ) → n < 8 → (1 * 2 ^ (n * 8)) % 18446744073709551616 ≡ 2 ^ (n * 8)
shifted n l =
    let h : 2 ^ (n * 8) ≤ 2 ^ 56 = (let b : n * 8 ≤ 56 = omega arith in pow_mono b) in
    let e : 1 * 2 ^ (n * 8) ≡ 2 ^ (n * 8) = omega arith in
    rw e (mod-eq_of_lt (omega arith))

pub shift-pos : (n : ℕ) → n < 8 → 0 < (1 * 2 ^ (n * 8)) % 18446744073709551616
shift-pos n l = rw (shifted n l) (pow_pos (n * 8))

-- ---- the row asked for

module _ {e : Event} {n low high : ℕ} (a : Sequence e n low high) where
  pub worded : Worded e.seq (record { low = low; high = high })
  worded = record { long = a.long; small = a.small; first = a.first; last = a.last }

  pub long-high : length (drop 8 e.seq) ≡ 8
  long-high = length-drop 8 e.seq ∙ rw a.long

  pub asks-bad : bad_sequence e ≡ not (between 1 16 n)
  asks-bad = rw a.count (go e.named)
    where
      go : (b : Bool) → (not (between 1 16 e.d3) || not b) ≡ not (between 1 16 (cond b e.d3 0))
      go true = or-false (not (between 1 16 e.d3))
      go false = or-true (not (between 1 16 e.d3))

  pub asks-out : between 1 16 n ≡ false → bad_sequence e ≡ true
  asks-out h = asks-bad ∙ rw h refl

  pub asks-good : 1 ≤ n → n ≤ 16 → bad_sequence e ≡ false
  asks-good l h = asks-bad ∙ rw (le-leb 1 n l, le-leb n 16 h)

module _ (p : Process) (e : Event) (shared : Bool) {n low high : ℕ} (a : Sequence e n low high) (bad : bad_sequence e ≡ false) where
  shown : (between 1 16 e.d3 ≡ true) × (n ≡ e.d3)
  shown =
      let o = or_off (not (between 1 16 e.d3)) (not e.named) bad in
      (not-false (between 1 16 e.d3) o.0, a.count ∙ rw (not-false e.named o.1))

  pub asked-bounds : (1 ≤ n) × (n ≤ 16)
  asked-bounds =
      let s = and_split (leb 1 e.d3) (leb e.d3 16) shown.0 in
      rw shown.1 (leb-true 1 e.d3 s.0, leb-true e.d3 16 s.1)

  row_low : value (take 8 (row_of p e shared).bytes) ≡ value (take n (take 8 e.seq))
  unfolding row_of padded
  row_low = rw (← shown.1) (low_zeros 8 (take n e.seq) (16 - length (take n e.seq)) ∙ ap value (take-swap 8 n e.seq))

  row-high : value (drop 8 (row_of p e shared).bytes) ≡ value (take (n - 8) (drop 8 e.seq))
  unfolding row_of padded
  row-high = rw (← shown.1) (high-zeros 8 (take n e.seq) (16 - length (take n e.seq)) ∙ ap value (drop-take 8 n e.seq))

  taken : length (take e.d3 e.seq) ≡ e.d3
  taken = let b = asked-bounds in length-take-le e.d3 e.seq (omega (arith, a.long, shown.1))

  row-whole : whole_row (row_of p e shared) ≡ true
  unfolding row_of padded whole_row fit_row
  row-whole =
      let b = asked-bounds in
      let xs = take e.d3 e.seq in
      let zs : List ℕ = replicate (16 - length xs) 0 in
      let fit : (between 1 16 e.d3 && all is_zero (drop e.d3 (xs ++ zs))) ≡ true = and-join _ _ shown.0 (rw (drop_at xs zs e.d3 taken) (all_replicate is_zero 0 refl (16 - length xs))) in
      let long : eqb (length (xs ++ zs)) 16 ≡ true = eq-eqb _ 16 (length-append xs zs ∙ rw (length-replicate {A = ℕ} (16 - length xs) 0) (omega (arith, taken, shown.1, asked-bounds.1))) in
      and-join _ _ (and-join _ _ fit long) (rw (all_append is_byte xs zs, fewer-all is_byte (fewer-take e.d3 e.seq) a.small) (all_replicate is_byte 0 refl (16 - length xs)))

  pub row-tells : {r : Cell} → r.owner ≡ p.pid → r.kind ≡ n + cond shared SHARED 0 → r.low ≡ value (take n (take 8 e.seq)) → r.high ≡ value (take (n - 8) (drop 8 e.seq)) → Tells r (row_of p e shared)
  unfolding words row_of
  row-tells {r} o k l h =
      let kind : e.d3 + cond shared SHARED 0 ≡ r.kind = sym (k ∙ ap (λ (j : ℕ). j + cond shared SHARED 0) shown.1) in
      record { words = λ j. sym o j ∷ kind j ∷ (row_low ∙ sym l) j ∷ (row-high ∙ sym h) j ∷ []; whole = row-whole }
