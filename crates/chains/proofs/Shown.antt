-- Rows that an array shows, and their links. Assumes nothing.
use Prim.Native.Nat.{ℕ, zero, suc, ◌+◌, ◌<◌, ◌≤◌}
use native.Mathlib.Omega.{arith}
use mathlib.Core.Path.{◌≡◌, refl, sym, ap, subst, ◌∙◌}
use mathlib.Core.Bool.{Bool, true, false, true≢false, false≢true}
use mathlib.Core.Logic.{◌↔◌}
use mathlib.Core.List.{List, [], ◌∷◌, ◌++◌}
use lib.ListN.{length, get_or, replicate, length-append}
use lib.Seq.{get_or_at}
use Rattle.locks.specs.Rows.{no_row, conflict}
use Rattle.locks.specs.declared.rows.Row.{Row}
use Rattle.locks.proofs.Tests.{cases}
use Rattle.locks.proofs.Telling.{tells-owner}
use Rattle.chains.specs.Chains.{Link, Chain}
use Rattle.chains.proofs.Chains.{chain-map}
use Rattle.locks.specs.Cells.{CELLS, Shows, Tells, cell_at}
use Rattle.chains.specs.Search.{owner_at, Shown, Leads, Searched}
use Rattle.locks.specs.declared.cells.Cell.{Cell}
use Rattle.chains.proofs.Opened.{Toured, tour-on, tour-past, no_way}

pub same-owner : {x y : Cell} → x ≡ y → x.owner ≡ y.owner
same-owner e = ap (λ (c : Cell). c.owner) e

-- what a test of two cells tells
abbrev pub Tested : Cell → Cell → Bool → Type 0
Tested x y b = (p q : Row) → Tells x p → Tells y q → b ≡ conflict p q

-- row w is p's and leads to q
pub record RowLeads (t : List ℕ) (last p w q : ℕ) : Type 0 where
  pub lead : Leads t last p q
  pub row : lead.link.row ≡ w

-- row a, which is q's, is in its way
pub record PairLeads (t : List ℕ) (last p w a q : ℕ) : Type 0 where
  pub lead : Leads t last p q
  pub row : lead.link.row ≡ w
  pub other : lead.link.other ≡ a

module _ {t : List ℕ} {last : ℕ} where
  module _ {rows : List Row} (s : Shown t last rows) where
    shown-at : (i : ℕ) → i ≤ last → Tells (cell_at t i) (get_or rows i no_row)
    shown-at i l = s.shows.tells i (omega (arith, s.long))

    pub shown-owner : (i : ℕ) → i ≤ last → owner_at t i ≡ (get_or rows i no_row).owner
    shown-owner i l = tells-owner (shown-at i l)

  module _ {x y : Cell} {b : Bool} {w a : ℕ} (h : Tested x y b) (e : x ≡ cell_at t w) (f : y ≡ cell_at t a) (l : w ≤ last) (m : a < w) where
    tested : {rows : List Row} → Shown t last rows → b ≡ conflict (get_or rows w no_row) (get_or rows a no_row)
    tested s = h _ _ (rw e (shown-at s w l)) (rw f (shown-at s a (omega arith)))

    -- the two are a pair
    pub pair : b ≡ true → {p q : ℕ} → owner_at t w ≡ p → owner_at t a ≡ q → (rows : List Row) → Shown t last rows → Link rows p q
    pair k i j rows s = record {
      row = w;
      other = a;
      stands = omega (arith, s.long);
      ahead = m;
      conflicts = sym (tested s) ∙ k;
      from = sym (shown-owner s w l) ∙ i;
      to = sym (shown-owner s a (omega arith)) ∙ j;
    }

    -- they are none
    pub no-pair : b ≡ false → {p q : ℕ} → PairLeads t last p w a q → ⊥
    no-pair k d =
        let g = d.lead.link.conflicts in
        false≢true (sym k ∙ tested d.lead.shown ∙ rw (d.row, d.other) at g)

  -- whose the rows are
  pub row_from : {p w q : ℕ} → RowLeads t last p w q → owner_at t w ≡ p
  row_from d =
      let l = d.lead in
      rw (← d.row) (shown-owner l.shown l.link.row (omega (arith, l.link.stands, l.shown.long)) ∙ l.link.from)

  pub pair-to : {p w a q : ℕ} → PairLeads t last p w a q → owner_at t a ≡ q
  pair-to d =
      let l = d.lead in
      rw (← d.other) (shown-owner l.shown l.link.other (omega (arith, l.link.ahead, l.link.stands, l.shown.long)) ∙ l.link.to)

  -- a loop over rows passes row w: all its pairs were passed, or it is another's
  pub row_done : {p w n : ℕ} {o u v r : List Bool} → Toured t last (RowLeads t last p) w o u → Toured t last (PairLeads t last p w) n u v → w ≤ n → r ≡ v → Toured t last (RowLeads t last p) (w + 1) o r
  row_done so_far pairs l e =
      tour-on so_far pairs.grown (λ q d. pairs.opens d.lead.link.other (omega (arith, d.lead.link.ahead, d.row)) q (record { lead = d.lead; row = d.row; other = refl })) e

  pub row_past : {p w a b : ℕ} {o u r : List Bool} → Toured t last (RowLeads t last p) w o u → a ≡ owner_at t w → b ≡ p → (a ≡ b → ⊥) → r ≡ u → Toured t last (RowLeads t last p) (w + 1) o r
  row_past so_far x y d e = tour-past so_far (λ q l. d (x ∙ row_from l ∙ sym y)) e

  -- all rows up to the last are passed
  pub searched : {p n : ℕ} {b : Bool} {o r : List Bool} → b ≡ false → Toured t last (RowLeads t last p) n o r → last < n → Searched t last p (Leads t last p) o b r
  searched none so_far l = record {
    back = λ e. absurd (false≢true (sym none ∙ e));
    grown = λ _. so_far.grown;
    had = λ _ q d. so_far.opens d.link.row (omega (arith, d.link.stands, d.shown.long)) q (record { lead = d; row = refl });
  }

-- ---- the answer

-- no mark was set when the search began at the last row, which is new
pub found-exact : {t : List ℕ} {last : ℕ} {b : Bool} {after : List Bool} → Searched t last (owner_at t last) (Leads t last (owner_at t last)) (replicate CELLS false) b after
    → (rows : List Row) (r : Row) → Shows t (rows ++ r ∷ []) → length rows ≡ last → (b ≡ true) ↔ Chain (Link (rows ++ r ∷ [])) r.owner r.owner
found-exact {t} {last} {b} s rows r h n =
    let d : Shown t last (rows ++ r ∷ []) = record { shows = h; long = rw length-append (omega arith) } in
    let e : owner_at t last ≡ r.owner = shown-owner d last (omega arith) ∙ ap (λ (q : Row). q.owner) (get_or_at rows r [] no_row last n) in (
      λ k. subst (λ (c : ℕ). Chain (Link (rows ++ r ∷ [])) c c) e (s.back k (rows ++ r ∷ []) d),
      λ ch. cases b (λ k. k)
          (λ k. absurd
          (no_way (λ i z. true≢false (sym z ∙ no-mark CELLS i)) (s.grown k) (owner_at t last) (s.had k)
          (chain-map (λ p q l. record { rows = rows ++ r ∷ []; shown = d; link = l }) (subst (λ (c : ℕ). Chain (Link (rows ++ r ∷ [])) c c) (sym e) ch)))),
    )
  where
    no-mark : (m i : ℕ) → get_or (replicate m false) i false ≡ false
    no-mark zero i = refl
    no-mark (suc m) zero = refl
    no-mark (suc m) (suc i) = no-mark m i
