-- Sixteen bytes as two numbers, and rows told by them. Assumes nothing.
use Prim.Native.Nat.{ℕ, zero, suc, ◌+◌, ◌-◌, ◌*◌, ◌/◌, ◌%◌, ◌≤◌, ◌<◌}
use native.Mathlib.Omega.{arith}
use mathlib.Core.Path.{◌≡◌, refl, sym, ap, ◌∙◌}
use mathlib.Core.Bool.{Bool, true, false, not}
use mathlib.Core.List.{List, [], ◌∷◌}
use lib.Dec.{eqb, leb}
use lib.ListN.{length, get_or, take, drop, take-append-drop, length-drop}
use lib.Seq.{drop-cons, get_or-drop, length-take-le, ext_get_or, take_all}
use borrow.Author.Tests.{eq-eqb, eqb-true, leb-true, leb-false, ltb-true, lt-ltb, not-false}
use Rattle.std.specs.Int.{w128, from_le_bytes}
use Rattle.locks.specs.Lists.{all, between, is_zero, agree}
use Rattle.locks.specs.Rows.{same_sequence}
use Rattle.locks.specs.Words.{is_byte, value, Worded, fit_row, Told, Note}
use Rattle.locks.specs.declared.rows.Row.{Row}
use Rattle.locks.specs.declared.words.Words.{Words}
use Rattle.locks.proofs.Tests.{cases, off, and_split, and-join}
use Rattle.locks.proofs.Lists.{all_drop, all-get}
use Rattle.locks.proofs.Loops.{agree-self, agree_at}
use Rattle.locks.proofs.Fewer.{fewer-all, fewer-take}

module _ {bytes : List ℕ} {w : Words} (p : Worded bytes w) where
  pub small_low : all is_byte (take 8 bytes) ≡ true
  small_low = fewer-all is_byte (fewer-take 8 bytes) p.small

  pub small-high : all is_byte (drop 8 bytes) ≡ true
  small-high = all_drop is_byte 8 bytes p.small

  pub length-low : length (take 8 bytes) ≡ 8
  length-low = length-take-le 8 bytes (omega (arith, p.long))

-- ---- equal numbers

same-value : (xs ys : List ℕ) → length xs ≡ length ys → all is_byte xs ≡ true → all is_byte ys ≡ true → value xs ≡ value ys → xs ≡ ys
same-value [] [] n h k e = refl
same-value [] (y ∷ ys) n h k e = absurd (omega arith)
same-value (x ∷ xs) [] n h k e = absurd (omega arith)
same-value (x ∷ xs) (y ∷ ys) n h k e =
    let s = and_split (is_byte x) (all is_byte xs) h in
    let t = and_split (is_byte y) (all is_byte ys) k in
    let l : x < 256 = ltb-true x 256 s.0 in
    let m : y < 256 = ltb-true y 256 t.0 in
    let a : x ≡ y = omega arith in
    let b : value xs ≡ value ys = omega arith in
    rw (a, same-value xs ys (omega arith) s.1 t.1 b)

pub same-words : {x y : List ℕ} {v w : Words} → Worded x v → Worded y w → v.low ≡ w.low → v.high ≡ w.high → x ≡ y
same-words {x} {y} p q e f =
    let a : take 8 x ≡ take 8 y = same-value _ _ (length-low p ∙ sym (length-low q)) (small_low p) (small_low q) (sym p.first ∙ e ∙ q.first) in
    let n : length (drop 8 x) ≡ length (drop 8 y) = rw (length-drop, length-drop, p.long, q.long) in
    let b : drop 8 x ≡ drop 8 y = same-value _ _ n (small-high p) (small-high q) (sym p.last ∙ f ∙ q.last) in
    sym (take-append-drop 8 x) ∙ rw (a, b) (take-append-drop 8 y)

-- ---- equal sequences

after : (n : ℕ) (xs : List ℕ) → all is_zero (drop n xs) ≡ true → (i : ℕ) → n ≤ i → get_or xs i 0 ≡ 0
after n xs h i l = let e : n + (i - n) ≡ i = omega arith in ap (λ k. get_or xs k 0) (sym e) ∙ sym (get_or-drop n xs (i - n) 0) ∙ eqb-true (get_or (drop n xs) (i - n) 0) 0 (all-get is_zero (drop n xs) 0 (i - n) refl h)

same_bytes : (n : ℕ) (x y : List ℕ) → length x ≡ length y → all is_zero (drop n x) ≡ true → all is_zero (drop n y) ≡ true → agree n x y ≡ true → x ≡ y
same_bytes n x y e h k a =
    ext_get_or 0 x y e
    (λ i l. cases (leb n i) (λ m. let o : n ≤ i = leb-true n i m in after n x h i o ∙ sym (after n y k i o)) (λ m. agree_at n x y a i (leb-false n i m)))

pub fit_parts : (r : Row) → fit_row r ≡ true → (between 1 16 r.len ≡ true) × (all is_zero (drop r.len r.bytes) ≡ true)
unfolding fit_row
fit_parts r h = and_split (between 1 16 r.len) (all is_zero (drop r.len r.bytes)) h

pub told : {r : Row} {w : Words} {b : Bool} → b ≡ fit_row r → not b ≡ false → Worded r.bytes w → Told r w
told {b = b} e h p = record { fit = sym e ∙ not-false b h; words = p }

module _ {r q : Row} {w : Words} {low high len owner : ℕ} {shared : Bool} (p : Told r w) (n : Note q low high len owner shared) where
  pub same : low ≡ w.low → high ≡ w.high → len ≡ r.len → same_sequence r q ≡ true
  unfolding same_sequence
  same a b c =
      let e : q.bytes ≡ r.bytes = same-words n.row.words p.words a b in
      rw (e, eq-eqb r.len q.len (sym (sym n.long ∙ c))) (agree-self r.len r.bytes)

  pub different : (low ≡ w.low → high ≡ w.high → len ≡ r.len → ⊥) → same_sequence r q ≡ false
  unfolding same_sequence
  different d =
      off (same_sequence r q)
      (λ h.
      let s = and_split (eqb r.len q.len) (agree r.len r.bytes q.bytes) h in
      let l : r.len ≡ q.len = eqb-true r.len q.len s.0 in
      let y : all is_zero (drop r.len q.bytes) ≡ true = rw l (fit_parts q n.row.fit).1 in
      let e : r.bytes ≡ q.bytes = same_bytes r.len r.bytes q.bytes (p.words.long ∙ sym n.row.words.long) (fit_parts r p.fit).1 y s.1 in
      d (n.row.words.first ∙ rw (← e) (sym p.words.first)) (n.row.words.last ∙ rw (← e) (sym p.words.last)) (n.long ∙ sym l))

-- ---- bytes by their places

abbrev pub bytes_from : ℕ → ℕ → List ℕ → List ℕ
bytes_from zero i x = []
bytes_from (suc n) i x = get_or x i 0 ∷ bytes_from n (suc i) x

pub bytes-from : (n i : ℕ) (x : List ℕ) → i + n ≤ length x → bytes_from n i x ≡ take n (drop i x)
bytes-from zero i x h = refl
bytes-from (suc n) i x h = rw (drop-cons x i 0 (omega arith), bytes-from n (suc i) x (omega arith))

pub all-at : (f : ℕ → Bool) (xs : List ℕ) → ((i : ℕ) → f (get_or xs i 0) ≡ true) → all f xs ≡ true
all-at f [] h = refl
all-at f (x ∷ xs) h = and-join (f x) (all f xs) (h 0) (all-at f xs (λ i. h (suc i)))

split_word : (n l h : ℕ) → n ≡ l + 18446744073709551616 * h → l < 18446744073709551616 → (n % 18446744073709551616 ≡ l) × (n / 18446744073709551616 ≡ h)
split_word n l h e s = (omega arith, omega arith)

-- sixteen bytes as one number, parted in the middle
pub worded : (x : List ℕ) (n : ℕ) → length x ≡ 16 → ((i : ℕ) → get_or x i 0 < 256) → n ≡ from_le_bytes w128 x
    → Worded x (record { low = n % 18446744073709551616; high = n / 18446744073709551616 })
worded x n long small e =
    let low = value (bytes_from 8 0 x) in
    let high = value (bytes_from 8 8 x) in
    let s = split_word n low high (omega (arith, e)) (omega (arith, small 0, small 1, small 2, small 3, small 4, small 5, small 6, small 7)) in
    record {
      long = long;
      small = all-at is_byte x (λ i. lt-ltb (get_or x i 0) 256 (small i));
      first = s.0 ∙ ap value (bytes-from 8 0 x (omega arith));
      last = s.1 ∙ ap value (bytes-from 8 8 x (omega arith) ∙ take_all 8 (drop 8 x) (rw (length-drop 8 x) (omega arith)));
    }
