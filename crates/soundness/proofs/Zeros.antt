-- A value of zeros, and what is equal to it. Assumes nothing.
use Rattle.std.proofs.Common.{◌≡◌, ◌∙◌, ℕ, zero, suc, ◌<◌, Bool, true, false, ◌&&◌, List, [], ◌∷◌, length, refl, sym, eqb, arith}
use mathlib.Core.Bool.{beq, not}
use Rattle.std.proofs.Math.Dec.{eqb-suc-zero, eqb-zero-suc, eqb-suc-suc}
use Rattle.std.proofs.Math.ListN.{replicate}
use Rattle.std.proofs.Math.Seq.{ext_get_or}
use Rattle.std.proofs.lemmas.List.{length-replicate, get_or-replicate}
use Rattle.std.specs.Array.{AllOfLen}
use Rattle.std.specs.Cmp.Lexicographic.{pointwise}
use Rattle.locks.specs.Lists.{all, is_zero, zeros}

-- `default` of an array of numbers
pub default_zeros : {xs : List ℕ} {n : ℕ} → AllOfLen (λ x. x ≡ 0) xs n → xs ≡ replicate n 0
default_zeros {xs} {n} a = ext_get_or 0 xs (replicate n 0) (a.long ∙ sym (length-replicate n 0)) (λ i l. let h : i < n = omega (arith, a.long) in a.at i 0 h ∙ sym (get_or-replicate n i 0 0 h))

both-swap : (a b c : Bool) → (a && (b && c)) ≡ (b && (a && c))
both-swap true b c = refl
both-swap false true c = refl
both-swap false false c = refl

pub equal_zeros : (n : ℕ) (xs : List ℕ) → pointwise eqb xs (replicate n 0) ≡ zeros n xs
equal_zeros zero [] = refl
equal_zeros zero (x ∷ xs) = rw eqb-suc-zero
equal_zeros (suc n) [] = rw eqb-zero-suc
equal_zeros (suc n) (x ∷ xs) = rw (equal_zeros n xs, eqb-suc-suc (length xs) n) (both-swap (is_zero x) (eqb (length xs) n) (all is_zero xs))

-- the tests of a rest, in the order of its fields and of the rules
pub rest_order : (a b c d : Bool) → (a && (b && (c && d))) ≡ (a && c && b && d)
rest_order false b c d = refl
rest_order true true true d = refl
rest_order true true false d = refl
rest_order true false true d = refl
rest_order true false false d = refl

pub is_false : (b : Bool) → beq b false ≡ not b
is_false true = refl
is_false false = refl
