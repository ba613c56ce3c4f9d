-- A number of several digits is a tenth of it, and one digit more. Assumes nothing.
use Rattle.std.proofs.Common.{ℕ, zero, suc, ◌≡◌, ◌+◌, ◌/◌, ◌%◌, ◌<◌, ◌≤◌, [], ◌∷◌, ◌++◌, length, arith}
use mathlib.Core.Path.{refl}
use lib.ListN.{length-append}
use Rattle.line.specs.Line.{digit_count, last_digits, decimal}

pub one_digit : (n : ℕ) → n < 10 → digit_count n ≡ 1
one_digit n h = grind arith

pub digit_more : (n : ℕ) → 10 ≤ n → n < 100000 → digit_count n ≡ suc (digit_count (n / 10))
digit_more n h k = grind arith

pub at_most_five : (n : ℕ) → digit_count n ≤ 5
at_most_five n = grind arith

pub one : (n : ℕ) → n < 10 → decimal n ≡ (48 + n % 10) ∷ []
unfolding decimal
one n h = rw one_digit refl

pub more : (n : ℕ) → 10 ≤ n → n < 100000 → decimal n ≡ decimal (n / 10) ++ ((48 + n % 10) ∷ [])
unfolding decimal
more n h k = rw digit_more refl

last_long : (k n : ℕ) → length (last_digits k n) ≡ k
last_long zero n = refl
last_long (suc k) n = let h = last_long k (n / 10) in simp length-append (omega arith)

pub digits_long : (n : ℕ) → length (decimal n) ≡ digit_count n
unfolding decimal
digits_long n = last_long (digit_count n) n
