-- Lists with unused places behind them, and stores in lists. Assumes nothing.
use Prim.Native.Nat.{ℕ, zero, suc, ◌-◌, ◌≤◌, ◌<◌}
use native.Mathlib.Omega.{arith}
use mathlib.Core.Path.{◌≡◌}
use mathlib.Core.Bool.{Bool, true}
use mathlib.Core.List.{List, [], ◌∷◌}
use lib.ListN.{length, get_or, take, set, replicate, length-append, length-set, length-replicate, get_or-append}
use lib.Seq.{take-append_seam, set-append_left}
use Rattle.locks.specs.Lists.{padded, all}
use Rattle.locks.proofs.Tests.{and_split, and-join, and_mono}

pub padded-length : {A : Type 0} (n : ℕ) (z : A) (xs : List A) → length xs ≤ n → length (padded n z xs) ≡ n
unfolding padded
padded-length n z xs l = rw (length-append xs (replicate (n - length xs) z), length-replicate (n - length xs) z) (omega arith)

pub padded-take : {A : Type 0} (n : ℕ) (z : A) (xs : List A) → take (length xs) (padded n z xs) ≡ xs
unfolding padded
padded-take n z xs = take-append_seam xs (replicate (n - length xs) z)

pub padded-get : {A : Type 0} (n : ℕ) (z d : A) (xs : List A) (i : ℕ) → i < length xs → get_or (padded n z xs) i d ≡ get_or xs i d
unfolding padded
padded-get n z d xs i l = get_or-append xs (replicate (n - length xs) z) d i l

pub padded-set : {A : Type 0} (n : ℕ) (z q : A) (xs : List A) (i : ℕ) → i < length xs → set (padded n z xs) i q ≡ padded n z (set xs i q)
unfolding padded
padded-set n z q xs i l = rw (set-append_left xs (replicate (n - length xs) z) i q l, length-set xs i q)

pub all_set : {A : Type 0} (f : A → Bool) (xs : List A) (i : ℕ) (q : A) → f q ≡ true → all f xs ≡ true → all f (set xs i q) ≡ true
all_set f [] i q h a = a
all_set f (x ∷ xs) zero q h a = and-join (f q) (all f xs) h (and_split (f x) (all f xs) a).1
all_set f (x ∷ xs) (suc i) q h a = and_mono (f x) (all f xs) (f x) (all f (set xs i q)) (λ e. e) (all_set f xs i q h) a
