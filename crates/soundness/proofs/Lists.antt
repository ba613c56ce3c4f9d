-- Tests of all elements, in the words of the rules and of std. Assumes nothing.
use Rattle.std.proofs.Common.{◌≡◌, ◌∙◌, ℕ, zero, suc, ◌+◌, ◌≤◌, ◌<◌, Bool, List, [], ◌∷◌, eqb, get_or, arith, refl, subst, eqb-true}
use Rattle.std.proofs.lemmas.Bool.{eqb-false}
use denote.Param.Members.{Mut}
use Rattle.std.specs.Array.{IsFromFnResultFrom}
use Rattle.std.specs.Fn.{Called}
use Rattle.locks.proofs.Tests.{cases}
use Rattle.std.specs.List.{list_all, list_any}
use Rattle.locks.specs.Lists.{all, any}

module _ {A : Type 0} where
  pub all_same : (f : A → Bool) (xs : List A) → list_all f xs ≡ all f xs
  all_same f [] = refl
  all_same f (x ∷ xs) = rw (all_same f xs)

  pub any_same : (f : A → Bool) (xs : List A) → list_any f xs ≡ any f xs
  any_same f [] = refl
  any_same f (x ∷ xs) = rw (any_same f xs)

-- what `from_fn` gives, of a closure that stays as it was
module _ {F B : Type 0} {g : Mut F (ℕ × Unit {0}) B} {f : F} (ys : List B) (h : ℕ → B) (d : B) (s : (i : ℕ) (y : B) (q : F) → Called g f (i, tt) y q → (q ≡ f) × (y ≡ h i)) where
  pub from_fn_at : (a n : ℕ) → IsFromFnResultFrom g f ys a n → (k : ℕ) → a ≤ k → k < a + n → get_or ys k d ≡ h k
  from_fn_at a zero t k l m = absurd (omega arith)
  from_fn_at a (suc n) (q, y, e, c, t) k l m =
      cases (eqb k a) (λ z. rw (eqb-true k a z) (e.1 d ∙ (s a y q c).1))
      (λ z.
      let z' : k ≡ a → ⊥ = eqb-false k a z in
      from_fn_at (a + 1) n (subst (λ (x : F). IsFromFnResultFrom g x ys (a + 1) n) (s a y q c).0 t) k (omega arith) (omega arith))
