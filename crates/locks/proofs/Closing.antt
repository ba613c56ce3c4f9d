-- A loop that closes gaps in place, and one that clears what lies behind. Assumes nothing.
use Prim.Native.Nat.{ℕ, suc, ◌+◌, ◌-◌, ◌≤◌, ◌<◌}
use native.Mathlib.Omega.{arith}
use native.Mathlib.Numerals.{add-one}
use mathlib.Core.Path.{◌≡◌, refl, sym, ap, ◌∙◌}
use mathlib.Core.List.{List, [], ◌∷◌, ◌++◌}
use lib.ListN.{length, get_or, take, drop, set, replicate, length-append, length-set, replicate-append-replicate}
use lib.Seq.{drop-cons, take-suc-set, drop-set-lt}
use Rattle.locks.specs.Lists.{padded}
use Rattle.locks.specs.Gaps.{unused}

module _ {A : Type 0} where
  -- of the first i of xs some stay and stand first, k in number; what is ahead of i is as it was
  pub record Closes (stay xs ys : List A) (k i : ℕ) : Type 0 where
    pub behind : k ≤ i
    pub count : k ≡ length stay
    pub kept : take k ys ≡ stay
    pub ahead : drop i ys ≡ drop i xs
    pub long : length ys ≡ length xs

  pub closing : (xs : List A) → Closes [] xs xs 0 0
  closing xs = record { behind = omega arith; count = refl; kept = refl; ahead = refl; long = refl }

  module _ {stay xs ys : List A} {k i : ℕ} (c : Closes stay xs ys k i) (d : A) (l : i < length xs) where
    more : i < length ys
    more = omega (arith, c.long)

    both : (get_or ys i d ≡ get_or xs i d) × (drop (suc i) ys ≡ drop (suc i) xs)
    both =
        let e : get_or ys i d ∷ drop (suc i) ys ≡ get_or xs i d ∷ drop (suc i) xs = sym (drop-cons ys i d more) ∙ c.ahead ∙ drop-cons xs i d l in
        (ap (λ (zs : List A). get_or zs 0 d) e, ap (drop 1) e)

    pub next-is : get_or ys i d ≡ get_or xs i d
    next-is = both.0

    pub next-stays : Closes (stay ++ get_or xs i d ∷ []) xs (set ys k (get_or ys i d)) (k + 1) (i + 1)
    next-stays =
        let b : k < length ys = omega (arith, more, c.behind) in
        record {
          behind = omega (arith, c.behind);
          count = rw (length-append stay (get_or xs i d ∷ []), ← c.count);
          kept = rw (add-one k, take-suc-set ys k (get_or ys i d) b, c.kept, next-is);
          ahead = rw (add-one i, drop-set-lt (suc i) ys k (get_or ys i d) (omega (arith, c.behind))) both.1;
          long = length-set ys k (get_or ys i d) ∙ c.long;
        }

    pub next-goes : Closes stay xs ys k (i + 1)
    next-goes = record { behind = omega (arith, c.behind); count = c.count; kept = c.kept; ahead = rw (add-one i) both.1; long = c.long }

  -- ---- the places from k to i are unused

  module _ (z : A) (k : ℕ) (ys : List A) where
    pub unused-all : {stay : List A} {n size : ℕ} → take k ys ≡ stay → k ≡ length stay → k ≤ n → n ≤ size → drop n ys ≡ replicate (size - n) z → unused z k n ys ≡ padded size z stay
    unfolding padded
    unused-all {stay} {n} {size} kept e b l behind =
        let o : (n - k) + (size - n) ≡ size - length stay = omega arith in
        rw (kept, behind, replicate-append-replicate (n - k) (size - n) z, o)
