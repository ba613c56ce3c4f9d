-- Rows in their array: read, put, one more, one less; told by their four numbers. Assumes nothing.
use Prim.Native.Nat.{ℕ, suc, ◌+◌, ◌-◌, ◌*◌, ◌%◌, ◌≤◌, ◌<◌}
use native.Mathlib.Omega.{arith}
use mathlib.Core.Path.{◌≡◌, refl, sym, ap, ◌∙◌}
use mathlib.Core.Bool.{Bool, true, false, cond, not, ◌&&◌, and-true, and-false}
use mathlib.Core.List.{List, [], ◌∷◌, ◌++◌, append-nil, append_assoc}
use lib.Dec.{eqb, leb}
use borrow.Author.Tests.{eq-eqb, ne_eqb, eqb-true, eqb-false, le-leb, lt-leb, leb-true}
use Rattle.locks.proofs.Tests.{cases, off, and_split}
use lib.ListN.{length, get_or, take, drop, set, replicate, length-set, length-append, length-drop, take-append-drop}
use lib.Seq.{set_at, length-take-le}
use Rattle.locks.specs.Lists.{padded, all}
use Rattle.locks.specs.Rows.{no_row, owns, twin, same_sequence, conflict, waits, waits_of, goes, without_twin}
use Rattle.locks.specs.declared.rows.Row.{Row}
use Rattle.locks.specs.declared.rows.Part.TheVariants.{Twin}
use Rattle.locks.proofs.Fewer.{fewer-all, fewer-take}
use Rattle.locks.proofs.Lists.{all-at, all_end, all-parts, all_drop}
use Rattle.locks.proofs.Loops.{padded-more, keep-sift, Walk}
use Rattle.locks.specs.Words.{is_byte, value, digits, fit_row, Told, Note}
use Rattle.locks.proofs.Bytes.{fit_parts, same, different}
use Rattle.locks.specs.Pieces.{joined, parted}
use Rattle.locks.specs.Cells.{CELL, CELLS, OWNER, KIND, LOW, HIGH, SHARED, words, whole_row, laid_cells, row_in, rows_in, Rows, Shows, Tells, Left, four, cell_set, cell_at, no_cell}
use Rattle.locks.specs.declared.cells.Cell.{Cell}
use Rattle.locks.proofs.Pieces.{joined-get, joined-set, parted-joined, digits_value}
use Rattle.locks.proofs.Padding.{padded-length, padded-take, padded-get}

-- ---- one row

pub wide_row : (r : Row) → length (words r) ≡ 4
unfolding words
wide_row r = refl

-- what a row that is whole has
pub record Parts (r : Row) : Type 0 where
  pub fit : fit_row r ≡ true
  pub len : r.len ≤ 16
  pub long : length r.bytes ≡ 16
  pub small : all is_byte r.bytes ≡ true

pub parts : (r : Row) → whole_row r ≡ true → Parts r
unfolding whole_row
parts r h =
    let n = eqb (length r.bytes) 16 in
    let a = and_split (fit_row r && n) (all is_byte r.bytes) h in
    let b = and_split (fit_row r) n a.0 in
    let l = and_split (leb 1 r.len) (leb r.len 16) (fit_parts r b.0).0 in
    record { fit = b.0; len = leb-true r.len 16 l.1; long = eqb-true (length r.bytes) 16 b.1; small = a.1 }

pub kind-back : (n : ℕ) (b : Bool) → n ≤ 16 → ((n + cond b 256 0) % 256 ≡ n) × (leb 256 (n + cond b 256 0) ≡ b)
kind-back n true h = (omega arith, le-leb 256 (n + 256) (omega arith))
kind-back n false h = (omega arith, lt-leb 256 (n + 0) (omega arith))

row_back : (r : Row) (z : List ℕ) → whole_row r ≡ true → row_in (words r ++ z) ≡ r
unfolding words row_in
row_back r z h =
    let p = parts r h in
    let k = kind-back r.len r.shared p.len in
    let n : length (take 8 r.bytes) ≡ 8 = length-take-le 8 r.bytes (omega (arith, p.long)) in
    let m : length (drop 8 r.bytes) ≡ 8 = length-drop 8 r.bytes ∙ rw p.long in
    let a : digits 8 (value (take 8 r.bytes)) ≡ take 8 r.bytes = ap (λ (j : ℕ). digits j (value (take 8 r.bytes))) (sym n) ∙ digits_value (take 8 r.bytes) (fewer-all is_byte (fewer-take 8 r.bytes) p.small) in
    let b : digits 8 (value (drop 8 r.bytes)) ≡ drop 8 r.bytes = ap (λ (j : ℕ). digits j (value (drop 8 r.bytes))) (sym m) ∙ digits_value (drop 8 r.bytes) (all_drop is_byte 8 r.bytes p.small) in
    let e : digits 8 (value (take 8 r.bytes)) ++ digits 8 (value (drop 8 r.bytes)) ≡ r.bytes = (λ i. a i ++ b i) ∙ take-append-drop 8 r.bytes in
    λ i. record { owner = r.owner; shared = k.1 i; len = k.0 i; bytes = e i }

-- ---- rows

module _ {t : List ℕ} {rows : List Row} (l : Rows t rows) where
  pub rows_back : rows_in t (length rows) ≡ rows
  unfolding rows_in laid_cells
  rows_back =
      ap (parted row_in CELL (length rows)) (l.is ∙ sym (append-nil (joined words (padded CELLS no_row rows))))
      ∙ parted-joined words CELL wide_row row_in whole_row row_back (length rows) (padded CELLS no_row rows) [] (rw (padded-length CELLS no_row rows l.few) l.few) (rw (padded-take CELLS no_row rows) l.whole)
      ∙ padded-take CELLS no_row rows

-- ---- CELLS places, whatever rows stand there

pub record Cells (t : List ℕ) (ys : List Row) : Type 0 where
  pub is : t ≡ joined words ys
  pub long : length ys ≡ CELLS

module _ {t : List ℕ} {ys : List Row} (c : Cells t ys) (i : ℕ) (l : i < CELLS) where
  inside : i < length ys
  inside = omega (arith, c.long)

  cell : (k : ℕ) → k < CELL → get_or t (i * CELL + k) 0 ≡ get_or (words (get_or ys i no_row)) k 0
  cell k b = ap (λ (x : List ℕ). get_or x (i * CELL + k) 0) (c.is ∙ sym (append-nil (joined words ys))) ∙ joined-get words CELL wide_row ys [] i no_row inside k b

  pub cells-get : words (get_or ys i no_row) ≡ four (cell_at t i)
  unfolding words
  cells-get = λ j. sym (cell OWNER (omega arith)) j ∷ sym (cell KIND (omega arith)) j ∷ sym (cell LOW (omega arith)) j ∷ sym (cell HIGH (omega arith)) j ∷ []

  pub cells-set : (r : Cell) (q : Row) → words q ≡ four r → Cells (cell_set t i r) (set ys i q)
  unfolding words
  cells-set r q e =
      record {
        is =
            ap (λ (x : List ℕ). cell_set x i r) (c.is ∙ sym (append-nil (joined words ys)))
            ∙ joined-set words CELL wide_row ys [] i no_row inside ((OWNER, r.owner) ∷ (KIND, r.kind) ∷ (LOW, r.low) ∷ (HIGH, r.high) ∷ []) q refl (sym e)
            ∙ append-nil (joined words (set ys i q));
        long = length-set ys i q ∙ c.long;
      }

-- ---- rows and unused places

pub cells : {t : List ℕ} {rows : List Row} → Rows t rows → Cells t (padded CELLS no_row rows)
unfolding laid_cells
cells {rows = rows} l = record { is = l.is; long = padded-length CELLS no_row rows l.few }

pub rows_get : {t : List ℕ} {rows : List Row} → Rows t rows → (i : ℕ) → i < length rows → Tells (cell_at t i) (get_or rows i no_row)
rows_get {t} {rows} l i h =
    record {
      words = sym (ap words (padded-get CELLS no_row no_row rows i h)) ∙ cells-get (cells l) i (let b = l.few in omega arith);
      whole = all-at whole_row rows no_row i h l.whole;
    }

pub rows-shows : {t : List ℕ} {rows : List Row} → Rows t rows → Shows t rows
rows-shows l = record { tells = rows_get l }

pub rows_more : {t : List ℕ} {rows : List Row} {c : Cell} {r : Row} → Rows t rows → length rows < CELLS → Tells c r → Rows (cell_set t (length rows) c) (rows ++ r ∷ [])
unfolding laid_cells
rows_more {t} {rows} {c} {r} l h e =
    record {
      is = (cells-set (cells l) (length rows) h c r e.words).is ∙ ap (joined words) (padded-more CELLS (length rows) no_row rows r refl h);
      few = rw (length-append rows (r ∷ [])) (omega arith);
      whole = all_end whole_row rows r l.whole e.whole;
    }

padded-less : (n : ℕ) (xs : List Row) (x : Row) → length xs < n → set (padded n no_row (xs ++ x ∷ [])) (length xs) no_row ≡ padded n no_row xs
unfolding padded
padded-less n xs x h =
    let e : n - length xs ≡ suc (n - (length xs + 1)) = omega arith in
    rw (e, length-append xs (x ∷ []), append_assoc xs (x ∷ []) (replicate (n - (length xs + 1)) no_row))
    (set_at xs x (replicate (n - (length xs + 1)) no_row) no_row (length xs) refl)

pub rows-less : {t : List ℕ} {rows : List Row} (r : Row) → Rows t (rows ++ r ∷ []) → length rows < CELLS → Rows (cell_set t (length rows) no_cell) rows
unfolding laid_cells words no_row
rows-less {rows = rows} r l h =
    record {
      is = (cells-set (cells l) (length rows) h no_cell no_row refl).is ∙ ap (joined words) (padded-less CELLS rows r h);
      few = omega arith;
      whole = (all-parts whole_row rows (r ∷ []) l.whole).0;
    }

-- ---- what the four numbers tell

module _ {c : Cell} {r : Row} (e : Tells c r) where
  told : Told r (record { low = c.low; high = c.high })
  unfolding words
  told =
      let p = parts r e.whole in
      record {
        fit = p.fit;
        words =
            record { long = p.long; small = p.small; first = ap (λ (x : List ℕ). get_or x LOW 0) (sym e.words); last = ap (λ (x : List ℕ). get_or x HIGH 0) (sym e.words) };
      }

  pub tells-owner : c.owner ≡ r.owner
  unfolding words
  tells-owner = ap (λ (x : List ℕ). get_or x OWNER 0) (sym e.words)

  pub tells-len : c.kind % SHARED ≡ r.len
  unfolding words
  tells-len = ap (λ (x : List ℕ). get_or x KIND 0 % SHARED) (sym e.words) ∙ (kind-back r.len r.shared (parts r e.whole).len).0

  pub tells-shared : leb SHARED c.kind ≡ r.shared
  unfolding words
  tells-shared = ap (λ (x : List ℕ). leb SHARED (get_or x KIND 0)) (sym e.words) ∙ (kind-back r.len r.shared (parts r e.whole).len).1

  note : Note r c.low c.high (c.kind % SHARED) c.owner (leb SHARED c.kind)
  note = record { row = told; long = tells-len; from = tells-owner; kind = tells-shared }

module _ {a b : Cell} {p q : Row} (x : Tells a p) (y : Tells b q) where
  same-sequence : a.low ≡ b.low → a.high ≡ b.high → a.kind % SHARED ≡ b.kind % SHARED → same_sequence p q ≡ true
  same-sequence f g h = same (told x) (note y) (sym f) (sym g) (sym h ∙ tells-len x)

  pub other-sequence : (a.low ≡ b.low → a.high ≡ b.high → a.kind % SHARED ≡ b.kind % SHARED → ⊥) → same_sequence p q ≡ false
  other-sequence d = different (told x) (note y) (λ f g h. d (sym f) (sym g) (tells-len x ∙ sym h))

  pub rest-sequence : a.low ≡ b.low → a.high ≡ b.high → eqb (a.kind % SHARED) (b.kind % SHARED) ≡ same_sequence p q
  rest-sequence f g =
      cases (eqb (a.kind % SHARED) (b.kind % SHARED)) (λ h. h ∙ sym (same-sequence f g (eqb-true (a.kind % SHARED) (b.kind % SHARED) h)))
      (λ h. h ∙ sym (other-sequence (λ _ _. eqb-false (a.kind % SHARED) (b.kind % SHARED) h)))

  -- owners, and shared: the other tests of a conflict
  pub calm-owner : a.owner ≡ b.owner → conflict p q ≡ false
  unfolding conflict
  calm-owner e = rw (eq-eqb p.owner q.owner (sym (tells-owner x) ∙ e ∙ tells-owner y), and-false (same_sequence p q))

  pub calm-shared : SHARED ≤ a.kind → SHARED ≤ b.kind → conflict p q ≡ false
  unfolding conflict same_sequence
  calm-shared f g = rw (sym (tells-shared x) ∙ le-leb SHARED a.kind f, sym (tells-shared y) ∙ le-leb SHARED b.kind g) (and-false (same_sequence p q && not (eqb p.owner q.owner)))

  unshared : (SHARED ≤ a.kind → SHARED ≤ b.kind → ⊥) → (p.shared && q.shared) ≡ false
  unshared g =
      off (p.shared && q.shared)
      (λ h.
      let s = and_split p.shared q.shared h in
      g (leb-true SHARED a.kind (tells-shared x ∙ s.0)) (leb-true SHARED b.kind (tells-shared y ∙ s.1)))

  pub by-sequence : (a.owner ≡ b.owner → ⊥) → (SHARED ≤ a.kind → SHARED ≤ b.kind → ⊥) → conflict p q ≡ same_sequence p q
  unfolding conflict
  by-sequence f g =
      rw (ne_eqb p.owner q.owner (λ e. f (tells-owner x ∙ e ∙ sym (tells-owner y))), unshared g, and-true (same_sequence p q), and-true (same_sequence p q))

  -- no conflict, and no twin
  pub no-sequence : same_sequence p q ≡ false → (twin p q ≡ false) × (conflict p q ≡ false)
  unfolding twin conflict
  no-sequence h = rw h (and-false (owns p.owner q), refl)

-- ---- a loop over the first n rows

pub walk : (rows : List Row) {n i : ℕ} → n ≤ length rows → i ≤ n → Walk rows (length rows) n n i
walk rows h l = record { inside = l; fits = h; long = refl; whole = refl }

-- the row at place i as the code has read it
module _ {t : List ℕ} {rows : List Row} {x : Cell} (l : Shows t rows) (i : ℕ) (e : x ≡ cell_at t i) (h : i < length rows) where
  pub tells_row : Tells x (get_or rows i no_row)
  tells_row = rw e (l.tells i h)

  pub waits-here : {b : Bool} (owner : ℕ) → x.owner ≡ owner → ((xs : List Row) (q : Row) → Shows t xs → i ≤ length xs → Tells x q → b ≡ waits (take i xs) q)
      → b ≡ waits_of owner (take i rows) (get_or rows i no_row)
  unfolding waits_of
  waits-here owner o w = rw (eq-eqb (get_or rows i no_row).owner owner (sym (tells-owner tells_row) ∙ o)) (w rows (get_or rows i no_row) l (omega arith) tells_row)

  pub other-here : (owner : ℕ) → (x.owner ≡ owner → ⊥) → waits_of owner (take i rows) (get_or rows i no_row) ≡ false
  unfolding waits_of
  other-here owner o = rw (ne_eqb (get_or rows i no_row).owner owner (λ f. o (tells-owner tells_row ∙ f)))

-- whether the row q, read as x, is the twin of r
module _ {x : Cell} {q : Row} (y : Tells x q) (r : Row) {n : ℕ} (o : n ≡ r.owner) where
  pub twin-here : {b : Bool} {c : Cell} → x.owner ≡ n → Tells c r → ((p s : Row) → Tells c p → Tells x s → b ≡ same_sequence p s) → b ≡ twin r q
  unfolding twin
  twin-here e z w = rw (eq-eqb q.owner r.owner (sym (tells-owner y) ∙ e ∙ o)) (w r q z y)

  pub no-twin-here : (x.owner ≡ n → ⊥) → twin r q ≡ false
  unfolding twin
  no-twin-here e = rw (ne_eqb q.owner r.owner (λ g. e (tells-owner y ∙ g ∙ sym o)))

-- ---- what is left, by the names of the rules

module _ {r : Row} {rows : List Row} {t : List ℕ} {k : ℕ} where
  pub left-twin : Left Twin r rows t k → Rows t (without_twin r rows) × (k ≡ length (without_twin r rows))
  unfolding without_twin goes
  left-twin l = let e = keep-sift (λ q. not (twin r q)) [] rows in rw (← e) (l.laid, l.count)
