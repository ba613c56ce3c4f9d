-- Laws of pieces: a store in one of them, some of them, and back. Assumes nothing.
use Prim.Native.Nat.{ℕ, zero, suc, ◌+◌, ◌*◌, ◌/◌, ◌%◌, ◌≤◌, ◌<◌}
use native.Mathlib.Nat.{suc-mul, le_of_suc-le-suc, not-suc-le-zero}
use native.Mathlib.Omega.{arith}
use mathlib.Core.Path.{◌≡◌, refl, sym, ap, ◌∙◌}
use mathlib.Core.Bool.{Bool, true}
use mathlib.Core.List.{List, [], ◌∷◌, ◌++◌, append_assoc}
use lib.ListN.{length, get_or, take, drop, set, length-append, length-set, get_or-append}
use lib.Dec.{ltb}
use lib.Seq.{set-append_left, set_split, split_at, get_or-append-add, drop-append-add, take-append-add, drop-append_seam, length-take-le, drop-cons, take_at, paste}
use borrow.Author.Tests.{ltb-true}
use Rattle.locks.specs.Lists.{all}
use Rattle.locks.proofs.Tests.{and_split}
use Rattle.locks.specs.Words.{is_byte, value, digits}
use Rattle.locks.specs.Pieces.{changes, joined, parted, stores, within}

pub set-append-add : (xs ys : List ℕ) (n a : ℕ) → set (xs ++ ys) (length xs + n) a ≡ xs ++ set ys n a
set-append-add [] ys n a = let e : 0 + n ≡ n = omega arith in rw e
set-append-add (x ∷ xs) ys n a = let e : suc (length xs) + n ≡ suc (length xs + n) = omega arith in rw (e, set-append-add xs ys n a)

stores_apart : (w i : ℕ) (a z : List ℕ) (ss : List (ℕ × ℕ)) (p : List ℕ) → length a ≡ i * w → length p ≡ w → within w ss ≡ true
    → stores w (a ++ (p ++ z)) i ss ≡ a ++ (changes p ss ++ z)
stores_apart w i a z [] p h n b = refl
stores_apart w i a z (s ∷ ss) p h n b =
    let c = and_split (ltb s.0 w) (within w ss) b in
    let l : s.0 < length p = rw n (ltb-true s.0 w c.0) in
    rw (← h, set-append-add a (p ++ z) s.0 s.1, set-append_left p z s.0 s.1 l) (stores_apart w i a z ss (set p s.0 s.1) h (length-set p s.0 s.1 ∙ n) c.1)

module _ {A : Type 0} (f : A → List ℕ) (w : ℕ) (wide : (a : A) → length (f a) ≡ w) where
  pub joined_length : (xs : List A) → length (joined f xs) ≡ length xs * w
  joined_length [] = omega arith
  joined_length (a ∷ xs) = rw (length-append (f a) (joined f xs), joined_length xs, wide a, suc-mul (length xs) w) (omega arith)

  pub joined-append : (xs ys : List A) → joined f (xs ++ ys) ≡ joined f xs ++ joined f ys
  joined-append [] ys = refl
  joined-append (a ∷ xs) ys = rw (joined-append xs ys) (sym (append_assoc (f a) (joined f xs) (joined f ys)))

  module _ (xs : List A) (z : List ℕ) (i : ℕ) (d : A) (l : i < length xs) where
    ahead : length (joined f (take i xs)) ≡ i * w
    ahead = joined_length (take i xs) ∙ rw (length-take-le i xs (omega arith))

    -- with piece i by itself
    apart : joined f xs ++ z ≡ joined f (take i xs) ++ (f (get_or xs i d) ++ (joined f (drop (suc i) xs) ++ z))
    apart =
        ap (λ (ys : List A). joined f ys ++ z) (split_at xs i d l)
        ∙ rw (joined-append (take i xs) (get_or xs i d ∷ drop (suc i) xs), append_assoc (joined f (take i xs)) (f (get_or xs i d) ++ joined f (drop (suc i) xs)) z, append_assoc (f (get_or xs i d)) (joined f (drop (suc i) xs)) z)

    -- number k of piece i
    pub joined-get : (k : ℕ) → k < w → get_or (joined f xs ++ z) (i * w + k) 0 ≡ get_or (f (get_or xs i d)) k 0
    joined-get k h =
        rw (apart, ← ahead, get_or-append-add (joined f (take i xs)) (f (get_or xs i d) ++ (joined f (drop (suc i) xs) ++ z)) k 0)
        (get_or-append (f (get_or xs i d)) (joined f (drop (suc i) xs) ++ z) 0 k (rw (wide (get_or xs i d)) h))

    -- stores there: the piece is another's
    pub joined-set : (ss : List (ℕ × ℕ)) (q : A) → within w ss ≡ true → changes (f (get_or xs i d)) ss ≡ f q → stores w (joined f xs ++ z) i ss ≡ joined f (set xs i q) ++ z
    joined-set ss q h e =
        rw (apart, stores_apart w i (joined f (take i xs)) (joined f (drop (suc i) xs) ++ z) ss (f (get_or xs i d)) ahead (wide (get_or xs i d)) h, e, set_split xs i q l, joined-append (take i xs) (q ∷ drop (suc i) xs), append_assoc (joined f (take i xs)) (f q ++ joined f (drop (suc i) xs)) z, append_assoc (f q) (joined f (drop (suc i) xs)) z)

  pub joined-take : (xs : List A) (z : List ℕ) (i : ℕ) → i ≤ length xs → take (i * w) (joined f xs ++ z) ≡ joined f (take i xs)
  joined-take xs z zero l = let e : 0 * w ≡ 0 = omega arith in rw e
  joined-take [] z (suc i) l = absurd (not-suc-le-zero l)
  joined-take (a ∷ xs) z (suc i) l =
      let e : suc i * w ≡ length (f a) + i * w = rw (wide a, suc-mul i w) (omega arith) in
      rw (e, append_assoc (f a) (joined f xs) z, take-append-add (f a) (joined f xs ++ z) (i * w), joined-take xs z i (le_of_suc-le-suc l))

  pub joined-drop : (xs : List A) (z : List ℕ) (i : ℕ) → i ≤ length xs → drop (i * w) (joined f xs ++ z) ≡ joined f (drop i xs) ++ z
  joined-drop xs z zero l = let e : 0 * w ≡ 0 = omega arith in rw e
  joined-drop [] z (suc i) l = absurd (not-suc-le-zero l)
  joined-drop (a ∷ xs) z (suc i) l =
      let e : suc i * w ≡ length (f a) + i * w = rw (wide a, suc-mul i w) (omega arith) in
      rw (e, append_assoc (f a) (joined f xs) z, drop-append-add (f a) (joined f xs ++ z) (i * w), joined-drop xs z i (le_of_suc-le-suc l))

  -- piece i, and another in its place
  pub piece-at : (xs : List A) (z : List ℕ) (i : ℕ) (d : A) → i < length xs → take w (drop (i * w) (joined f xs ++ z)) ≡ f (get_or xs i d)
  piece-at xs z i d l =
      rw (joined-drop xs z i (omega arith), drop-cons xs i d l, append_assoc (f (get_or xs i d)) (joined f (drop (suc i) xs)) z)
      (take_at (f (get_or xs i d)) (joined f (drop (suc i) xs) ++ z) w (wide (get_or xs i d)))

  pub joined-paste : (xs : List A) (z : List ℕ) (i : ℕ) (s : List ℕ) (q : A) → i < length xs → take w s ≡ f q → paste (joined f xs ++ z) (i * w) s w ≡ joined f (set xs i q) ++ z
  joined-paste xs z i s q l e =
      rw (← suc-mul i w, joined-take xs z i (omega arith), joined-drop xs z (suc i) l, e, set_split xs i q l, joined-append (take i xs) (q ∷ drop (suc i) xs), append_assoc (joined f (take i xs)) (f q ++ joined f (drop (suc i) xs)) z, append_assoc (f q) (joined f (drop (suc i) xs)) z)
      (append_assoc (joined f (take i xs)) (f q) (joined f (drop (suc i) xs) ++ z))

  -- what was laid out is read back
  pub parted-joined : (g : List ℕ → A) (ok : A → Bool) → ((a : A) (z : List ℕ) → ok a ≡ true → g (f a ++ z) ≡ a)
      → (n : ℕ) (xs : List A) (z : List ℕ) → n ≤ length xs → all ok (take n xs) ≡ true → parted g w n (joined f xs ++ z) ≡ take n xs
  parted-joined g ok back zero xs z l h = refl
  parted-joined g ok back (suc n) [] z l h = absurd (not-suc-le-zero l)
  parted-joined g ok back (suc n) (a ∷ xs) z l h =
      let s = and_split (ok a) (all ok (take n xs)) h in
      let e : drop w (f a ++ (joined f xs ++ z)) ≡ joined f xs ++ z = rw (← wide a) (drop-append_seam (f a) (joined f xs ++ z)) in
      rw (append_assoc (f a) (joined f xs) z, back a (joined f xs ++ z) s.0, e, parted-joined g ok back n xs z (le_of_suc-le-suc l) s.1)

pub parted-length : {A : Type 0} (g : List ℕ → A) (w n : ℕ) (m : List ℕ) → length (parted g w n m) ≡ n
parted-length g w zero m = refl
parted-length g w (suc n) m = ap suc (parted-length g w n (drop w m))

pub digits_value : (xs : List ℕ) → all is_byte xs ≡ true → digits (length xs) (value xs) ≡ xs
digits_value [] h = refl
digits_value (x ∷ xs) h =
    let s = and_split (is_byte x) (all is_byte xs) h in
    let l : x < 256 = ltb-true x 256 s.0 in
    let a : (x + 256 * value xs) % 256 ≡ x = omega arith in
    let b : (x + 256 * value xs) / 256 ≡ value xs = omega arith in
    rw (a, b, digits_value xs s.1)
