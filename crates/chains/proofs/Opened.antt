-- The processes that the search has opened. Assumes nothing.
use Prim.Native.Nat.{ℕ, zero, suc, ◌+◌, ◌<◌, ◌≤◌, zero-le, suc-le-suc}
use native.Mathlib.Nat.{le_of_suc-le-suc, not-suc-le-zero, le_refl, suc_inj}
use native.Mathlib.Omega.{arith}
use mathlib.Core.Path.{◌≡◌, refl, sym, ◌∙◌}
use mathlib.Core.Bool.{Bool, true, false, true≢false, false≢true}
use mathlib.Core.Logic.{inl, inr, ⊎_elim}
use mathlib.Core.List.{List, [], ◌∷◌}
use lib.Dec.{eqb}
use lib.ListN.{length, get_or, set}
use lib.Seq.{get_or-set_same, get_or-set_other}
use borrow.Author.Count.{below_more}
use borrow.Author.Tests.{eqb-true, eqb-false}
use Rattle.chains.specs.Chains.{Chain, one, more}
use Rattle.locks.specs.Cells.{CELLS}
use Rattle.chains.specs.Search.{owner_at, Leads, Passed, Grown}
use Rattle.locks.proofs.Tests.{cases}

-- ---- how many are not opened

-- one for each that is not
abbrev one-shut : Bool → ℕ → ℕ
one-shut true n = n
one-shut false n = suc n

unfoldable pub shut : List Bool → ℕ
shut [] = 0
shut (b ∷ o) = one-shut b (shut o)

pub shut-set : (o : List Bool) (k : ℕ) → k < length o → get_or o k false ≡ false → shut (set o k true) < shut o
unfolding shut
shut-set [] k l e = absurd (not-suc-le-zero l)
shut-set (true ∷ o) zero l e = absurd (true≢false e)
shut-set (false ∷ o) zero l e = le_refl _
shut-set (true ∷ o) (suc k) l e = shut-set o k (le_of_suc-le-suc l) e
shut-set (false ∷ o) (suc k) l e = suc-le-suc (shut-set o k (le_of_suc-le-suc l) e)

shut-le : (o r : List Bool) → length r ≡ length o → ((k : ℕ) → get_or o k false ≡ true → get_or r k false ≡ true) → shut r ≤ shut o
unfolding shut
shut-le [] [] s h = zero-le
shut-le [] (b ∷ r) s h = absurd (omega arith)
shut-le (b ∷ o) [] s h = absurd (omega arith)
shut-le (true ∷ o) (true ∷ r) s h = shut-le o r (suc_inj s) (λ k. h (suc k))
shut-le (true ∷ o) (false ∷ r) s h = absurd (false≢true (h 0 refl))
shut-le (false ∷ o) (true ∷ r) s h = let ih : shut r ≤ shut o = shut-le o r (suc_inj s) (λ k. h (suc k)) in omega arith
shut-le (false ∷ o) (false ∷ r) s h = suc-le-suc (shut-le o r (suc_inj s) (λ k. h (suc k)))

-- ---- what is opened grows

module _ {t : List ℕ} {last : ℕ} where
  pub grown-refl : {o : List Bool} → length o ≡ CELLS → Grown t last o o
  grown-refl s = record { size = s; keeps = λ k h. h; closed = λ k h. inl h }

  pub grown-shut : {o r : List Bool} → length o ≡ CELLS → Grown t last o r → shut r ≤ shut o
  grown-shut {o} {r} s g = shut-le o r (g.size ∙ sym s) g.keeps

  module _ {u r : List Bool} (g : Grown t last u r) where
    -- who was passed still is
    pub passed_then : {q : ℕ} → Passed t last u q → Passed t last r q
    passed_then s = record { row = s.row; mark = g.keeps s.row s.mark; own = s.own; other = s.other }

    pub grown-then : {o : List Bool} → Grown t last o u → Grown t last o r
    grown-then h = record {
      size = g.size;
      keeps = λ k e. g.keeps k (h.keeps k e);
      closed = λ k e. ⊎_elim (λ y. ⊎_elim inl (λ f. inr (λ q l. passed_then (f q l))) (h.closed k y)) inr (g.closed k e);
    }

-- the owner of row k is opened; then all that it leads to are, and the owner of the last row is not among them
module _ {t : List ℕ} {last : ℕ} (o : List Bool) (k : ℕ) {r : List Bool} (l : k < length o) (g : Grown t last (set o k true) r) where
  pub opened_in : get_or r k false ≡ true
  opened_in = g.keeps k (get_or-set_same o k true false l)

  pub opening : {p : ℕ} → owner_at t k ≡ p → ((q : ℕ) → Leads t last p q → Passed t last r q) → Grown t last o r
  opening own on = record {
    size = g.size;
    keeps = λ j h. cases (eqb j k) (λ e. rw (eqb-true j k e) opened_in) (λ e. let d : j ≡ k → ⊥ = eqb-false j k e in g.keeps j (rw get_or-set_other h));
    closed = λ j h. cases (eqb j k) (λ e. inr (rw (eqb-true j k e, own) on))
        (λ e. let d : j ≡ k → ⊥ = eqb-false j k e in ⊎_elim (λ y. inl (rw get_or-set_other at y)) inr (g.closed j h));
  }

-- ---- a loop that passes what each of the first n leads to, whatever that means

pub record Toured (t : List ℕ) (last : ℕ) (To : ℕ → ℕ → Type 0) (n : ℕ) (o r : List Bool) : Type 0 where
  pub grown : Grown t last o r
  pub opens : (v : ℕ) → v < n → (q : ℕ) → To v q → Passed t last r q

module _ {t : List ℕ} {last : ℕ} {To : ℕ → ℕ → Type 0} where
  -- the first n lead nowhere
  pub tour-from : {n : ℕ} {o : List Bool} → length o ≡ CELLS → ((v : ℕ) → v < n → (q : ℕ) → To v q → ⊥) → Toured t last To n o o
  tour-from s none = record { grown = grown-refl s; opens = λ v l q h. absurd (none v l q h) }

  module _ {n : ℕ} {o u r : List Bool} (d : Toured t last To n o u) where
    pub tour-past : ((q : ℕ) → To n q → ⊥) → r ≡ u → Toured t last To (n + 1) o r
    tour-past none e = rw e (record { grown = d.grown; opens = below_more _ _ d.opens (λ q h. absurd (none q h)) })

    pub tour-on : {v : List Bool} → Grown t last u v → ((q : ℕ) → To n q → Passed t last v q) → r ≡ v → Toured t last To (n + 1) o r
    tour-on g here e = rw e (record { grown = grown-then g d.grown; opens = below_more _ _ (λ v l q h. passed_then g (d.opens v l q h)) here })

-- ---- the end

-- nobody was opened before: then no chain leads from one that leads to opened ones only to v, the owner of the last row
no_way-to : {t : List ℕ} {last v : ℕ} {o r : List Bool} → ((k : ℕ) → get_or o k false ≡ true → ⊥) → Grown t last o r
    → (p : ℕ) → ((q : ℕ) → Leads t last p q → Passed t last r q) → Chain (Leads t last) p v → v ≡ owner_at t last → ⊥
no_way-to n g p on (one l) e = (on _ l).other e
no_way-to n g p on (more {b = q} l d) e =
    let s = on q l in
    no_way-to n g q (λ x f. ⊎_elim (λ h. absurd (n s.row h)) (λ f'. f' x (rw s.own f)) (g.closed s.row s.mark)) d e

-- nobody was opened before: then no chain leads from one that leads to opened ones only to the owner of the last row
pub no_way : {t : List ℕ} {last : ℕ} {o r : List Bool} → ((k : ℕ) → get_or o k false ≡ true → ⊥) → Grown t last o r
    → (p : ℕ) → ((q : ℕ) → Leads t last p q → Passed t last r q) → Chain (Leads t last) p (owner_at t last) → ⊥
no_way n g p on d = no_way-to n g p on d refl
