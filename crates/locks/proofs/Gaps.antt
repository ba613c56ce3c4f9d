-- Rows that go from their array: those that stay move up, and what lies behind them is cleared. Assumes nothing.
use Prim.Native.Nat.{ℕ, zero, suc, ◌+◌, ◌-◌, ◌*◌, ◌≤◌, ◌<◌}
use native.Mathlib.Omega.{arith}
use mathlib.Core.Path.{◌≡◌, refl, sym, ap, ◌∙◌}
use mathlib.Core.Bool.{Bool, true, false, not, and-false}
use mathlib.Core.List.{List, [], ◌∷◌, ◌++◌, append-nil}
use lib.ListN.{length, get_or, take, drop, set, replicate}
use lib.Seq.{take_all, get_or-take, set-get_or, drop-append_seam, drop-drop}
use borrow.Rule.Slice.PartMut.{put_mid}
use borrow.Author.Tests.{eq-eqb, ne_eqb, eqb-true, not-false}
use Rattle.locks.specs.Lists.{any, all, sift, padded}
use Rattle.locks.specs.Rows.{no_row, owns, twin, same_sequence, conflict, waits, waits_of, goes}
use Rattle.locks.specs.declared.rows.Row.{Row}
use Rattle.locks.specs.declared.rows.Part.{Part}
use Rattle.locks.specs.declared.rows.Part.TheVariants.{Twin, All, Waiting}
use Rattle.locks.proofs.Tests.{cases, and_split}
use Rattle.locks.proofs.Lists.{all-at}
use Rattle.locks.proofs.Loops.{sifted-more, sifted-same}
use Rattle.locks.proofs.Fewer.{fewer-sift, fewer-take, fewer-all}
use Rattle.locks.specs.Pieces.{joined}
use Rattle.locks.specs.Cells.{CELL, CELLS, Names, Rows, Shows, Tells, cell_at, cell_set, four, laid_cells, staying, whole_row, words}
use Rattle.locks.specs.Gaps.{Closed, Trails}
use Rattle.locks.specs.declared.cells.Cell.{Cell}
use Rattle.locks.proofs.Closing.{Closes, closing, next-goes, next-is, next-stays, unused-all}
use Rattle.locks.proofs.Padding.{padded-get, padded-length}
use Rattle.locks.proofs.Pieces.{joined-append, joined-take, joined-drop}
use Rattle.locks.proofs.Telling.{wide_row, Cells, cells, cells-get, cells-set, walk}

-- ---- rows that stay, moved up

pub record Gap (t : List ℕ) (stay rows : List Row) (k i : ℕ) : Type 0 where
  pub ys : List Row
  pub cells : Cells t ys
  pub closes : Closes stay (padded CELLS no_row rows) ys k i

pub gap : {t : List ℕ} {rows : List Row} → Rows t rows → Gap t [] rows 0 0
gap {rows = rows} l = record { ys = padded CELLS no_row rows; cells = cells l; closes = closing (padded CELLS no_row rows) }

module _ {t : List ℕ} {stay rows : List Row} {k i : ℕ} (g : Gap t stay rows k i) (few : length rows ≤ CELLS) where
  -- the rows that stay can be read
  gap-shows : i ≤ length rows → all whole_row stay ≡ true → Shows t stay
  gap-shows h w =
      record {
        tells = λ j b.
            let m : j < k = omega (arith, g.closes.count) in
            record {
              words =
                  ap (λ (zs : List Row). words (get_or zs j no_row)) (sym g.closes.kept) ∙ ap words (get_or-take k g.ys j no_row m)
                  ∙ cells-get g.cells j (omega (arith, g.closes.behind));
              whole = all-at whole_row stay no_row j b w;
            };
      }

  -- all are passed
  pub gap-end : i ≡ length rows → Trails t stay (length rows)
  unfolding padded
  gap-end e =
      record {
        ys = g.ys;
        is = g.cells.is;
        long = g.cells.long;
        few = omega (arith, g.closes.behind, g.closes.count);
        first = ap (λ (j : ℕ). take j g.ys) (sym g.closes.count) ∙ g.closes.kept;
        last = ap (λ (j : ℕ). drop j g.ys) (sym e) ∙ g.closes.ahead ∙ rw e (drop-append_seam rows (replicate (CELLS - length rows) no_row));
      }

  module _ (h : i < length rows) where
    in_cells : i < length (padded CELLS no_row rows)
    in_cells = rw (padded-length CELLS no_row rows few) (omega arith)

    is_row : get_or (padded CELLS no_row rows) i no_row ≡ get_or rows i no_row
    is_row = padded-get CELLS no_row no_row rows i h

    -- what is read is the row as it was
    gap-tells : {x : Cell} → x ≡ cell_at t i → all whole_row rows ≡ true → Tells x (get_or rows i no_row)
    gap-tells e w =
        record {
          words = sym (ap words (next-is g.closes no_row in_cells ∙ is_row)) ∙ cells-get g.cells i (omega arith) ∙ ap four (sym e);
          whole = all-at whole_row rows no_row i h w;
        }

    on : Closes (stay ++ get_or rows i no_row ∷ []) (padded CELLS no_row rows) (set g.ys k (get_or g.ys i no_row)) (k + 1) (i + 1)
    on = rw is_row at (next-stays g.closes no_row in_cells)

    gap-moved : {x : Cell} → x ≡ cell_at t i → Gap (cell_set t k x) (stay ++ get_or rows i no_row ∷ []) rows (k + 1) (i + 1)
    gap-moved {x} e =
        record {
          ys = set g.ys k (get_or g.ys i no_row);
          cells = cells-set g.cells k (omega (arith, g.closes.behind)) x (get_or g.ys i no_row) (cells-get g.cells i (omega arith) ∙ ap four (sym e));
          closes = on;
        }

    -- no gap yet
    gap-still : i ≤ k → Gap t (stay ++ get_or rows i no_row ∷ []) rows (k + 1) (i + 1)
    gap-still b =
        let o : k ≡ i = omega (arith, g.closes.behind) in
        let s : set g.ys k (get_or g.ys i no_row) ≡ g.ys = rw o (set-get_or g.ys i no_row) in
        record { ys = g.ys; cells = g.cells; closes = rw s at on }

    gap-gone : Gap t stay rows k (i + 1)
    gap-gone = record { ys = g.ys; cells = g.cells; closes = next-goes g.closes no_row in_cells }

-- ---- which rows go

pub by-none : (part : Part) (r : Row) (earlier : List Row) (q : Row) {b : Bool} → (q.owner ≡ r.owner → ⊥) → b ≡ false → b ≡ goes part r earlier q
unfolding goes twin waits_of
by-none Twin r earlier q d h = rw (ne_eqb q.owner r.owner d) h
by-none All r earlier q d h = rw (ne_eqb q.owner r.owner d) h
by-none Waiting r earlier q d h = rw (ne_eqb q.owner r.owner d) h

-- what goes never passes the test
any-sift : {A : Type 0} (g : A → Bool) (f : List A → A → Bool) → ((earlier : List A) (x : A) → f earlier x ≡ false → g x ≡ false) → (earlier xs : List A) → any g (sift f earlier xs) ≡ any g xs
any-sift g f h earlier [] = refl
any-sift g f h earlier (x ∷ xs) =
    let i = any-sift g f h (earlier ++ x ∷ []) xs in
    cases (f earlier x) (λ e. rw (e, i)) (λ e. rw (e, h earlier x e) i)

-- a row that went has the owner of the row that is looked at, so they do not conflict
waits-behind-left : (r : Row) (earlier : List Row) (q : Row) → q.owner ≡ r.owner → waits (staying Waiting r earlier) q ≡ waits earlier q
unfolding waits goes waits_of conflict
waits-behind-left r earlier q o =
    any-sift (conflict q) (λ a x. not (goes Waiting r a x))
    (λ a x e.
    let s = and_split (owns r.owner x) (waits a x) (not-false (waits_of r.owner a x) e) in
    rw (eq-eqb q.owner x.owner (o ∙ sym (eqb-true x.owner r.owner s.0)), and-false (same_sequence q x)))
    [] earlier

pub goes-behind-left : (part : Part) (r : Row) (earlier : List Row) (q : Row) → goes part r (staying part r earlier) q ≡ goes part r earlier q
unfolding goes waits_of
goes-behind-left Twin r earlier q = refl
goes-behind-left All r earlier q = refl
goes-behind-left Waiting r earlier q =
    cases (owns r.owner q) (λ e. rw (e, waits-behind-left r earlier q (eqb-true q.owner r.owner e))) (λ e. rw e)

-- ---- the loop over the rows: t is what lies in the array at row i, read as x

module _ (part : Part) (r : Row) {t₀ t : List ℕ} {rows : List Row} {k i : ℕ} {x : Cell} (l : Rows t₀ rows) (g : Gap t (staying part r (take i rows)) rows k i) (h : i < length rows) (e : x ≡ cell_at t i) where
  pub gone-here : {b : Bool} {c : Cell} → Names part c r
      → ((xs : List Row) (p q : Row) → Shows t xs → k ≤ length xs → Names part c p → Tells x q → b ≡ goes part p (take k xs) q)
      → b ≡ goes part r (take i rows) (get_or rows i no_row)
  gone-here n w =
      let stay = staying part r (take i rows) in
      let q = get_or rows i no_row in
      let whole : all whole_row stay ≡ true = fewer-all whole_row (fewer-sift (λ a p. not (goes part r a p)) [] (take i rows)) (fewer-all whole_row (fewer-take i rows) l.whole) in
      w stay r q (gap-shows g l.few (omega arith) whole) (omega (arith, g.closes.count)) n (gap-tells g l.few h e l.whole)
      ∙ ap (λ (zs : List Row). goes part r zs q) (take_all k stay (omega (arith, g.closes.count))) ∙ goes-behind-left part r (take i rows) q

  module _ (s : not (goes part r (take i rows) (get_or rows i no_row)) ≡ true) where
    one_more : staying part r (take (i + 1) rows) ≡ staying part r (take i rows) ++ get_or rows i no_row ∷ []
    one_more = sifted-more (walk rows {n = length rows} (omega arith) (omega arith)) (λ a p. not (goes part r a p)) no_row h s

    pub row_moved : Gap (cell_set t k x) (staying part r (take (i + 1) rows)) rows (k + 1) (i + 1)
    row_moved = rw one_more (gap-moved g l.few h e)

    pub row-still : i ≤ k → Gap t (staying part r (take (i + 1) rows)) rows (k + 1) (i + 1)
    row-still b = rw one_more (gap-still g l.few h b)

  pub row-gone : not (goes part r (take i rows) (get_or rows i no_row)) ≡ false → Gap t (staying part r (take (i + 1) rows)) rows k (i + 1)
  row-gone s = rw (sifted-same (walk rows {n = length rows} (omega arith) (omega arith)) (λ a p. not (goes part r a p)) no_row h s) (gap-gone g l.few h)

pub closed : (part : Part) (r : Row) {t₀ t : List ℕ} {rows : List Row} {k i : ℕ} → Rows t₀ rows → Gap t (staying part r (take i rows)) rows k i → i ≡ length rows → Closed part r rows t k
closed part r {rows = rows} {i = i} l g e =
    let s : take i rows ≡ rows = take_all i rows (omega arith) in
    let f = rw s at g in
    record { trails = gap-end f l.few e; count = f.closes.count }

-- ---- what lies behind is cleared

zero_words : (n : ℕ) → replicate (n * CELL) 0 ≡ joined words (replicate n no_row)
unfolding words no_row
zero_words zero = refl
zero_words (suc n) = let e : suc n * CELL ≡ suc (suc (suc (suc (n * CELL)))) = omega arith in rw (e, zero_words n)

pub cleared : {t zs : List ℕ} {stay : List Row} {used : ℕ} (k : ℕ) (l : Trails t stay used) → k ≡ length stay → used ≤ CELLS → zs ≡ replicate (used * CELL - k * CELL) 0
    → put_mid (k * CELL) (used * CELL - k * CELL) t zs ≡ laid_cells stay
unfolding laid_cells
cleared {t} {zs} {stay} {used} k l e b z =
    let ys = l.ys in
    let gap = replicate (used - k) no_row in
    let o : k * CELL + (used * CELL - k * CELL) ≡ used * CELL = omega (arith, l.few) in
    let m : used * CELL - k * CELL ≡ (used - k) * CELL = omega arith in
    let is : t ≡ joined words ys ++ [] = l.is ∙ sym (append-nil (joined words ys)) in
    let first : take (k * CELL) t ≡ joined words (take k ys) = rw is (joined-take words CELL wide_row ys [] k (omega (arith, l.few, l.long))) in
    let last : drop (used * CELL) t ≡ joined words (drop used ys) = rw (is, joined-drop words CELL wide_row ys [] used (omega (arith, l.long))) (append-nil (joined words (drop used ys))) in
    let middle : zs ≡ joined words gap = rw (z, m) (zero_words (used - k)) in
    rw (drop-drop, o, first, last, middle, ← joined-append words CELL wide_row gap (drop used ys), ← joined-append words CELL wide_row (take k ys) (gap ++ drop used ys))
    (ap (joined words) (unused-all no_row k ys (rw e l.first) e (omega (arith, l.few)) b l.last))
