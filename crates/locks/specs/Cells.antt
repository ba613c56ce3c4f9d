-- Lock rows in their array of numbers. Assumes nothing.
use Rattle.std.specs.Prelude.{ℕ, ◌+◌, ◌*◌, ◌%◌, ◌≤◌, ◌<◌, ◌≡◌, Bool, true, cond, not, ◌&&◌, List, [], ◌∷◌, ◌++◌, eqb, leb, length, get_or, take, drop}
use Rattle.locks.specs.Lists.{padded, all, sift}
use Rattle.locks.specs.Rows.{no_row, goes}
use Rattle.locks.specs.Words.{is_byte, value, digits, fit_row}
use Rattle.locks.specs.Pieces.{joined, parted, stores}
use Rattle.locks.specs.declared.rows.Row.{Row}
use Rattle.locks.specs.declared.rows.Part.{Part}
use Rattle.locks.specs.declared.rows.Part.TheVariants.{Twin}
use Rattle.locks.specs.declared.cells.Cell.{Cell}

-- ---- a row is a cell of four numbers, by these names

abbrev pub CELL : ℕ
CELL = 4

abbrev pub OWNER : ℕ
OWNER = 0

-- the length of the sequence, and SHARED more where the row is shared
abbrev pub KIND : ℕ
KIND = 1

-- the first eight bytes of the sequence, and the last
abbrev pub LOW : ℕ
LOW = 2

abbrev pub HIGH : ℕ
HIGH = 3

abbrev pub SHARED : ℕ
SHARED = 256

-- "0 to 32 lock rows", and one place for the row that is asked for
abbrev pub CELLS : ℕ
CELLS = 33

-- the numbers of all cells
abbrev pub WORDS : ℕ
WORDS = 132

unfoldable pub words : Row → List ℕ
words r = r.owner ∷ (r.len + cond r.shared SHARED 0) ∷ value (take 8 r.bytes) ∷ value (drop 8 r.bytes) ∷ []

unfoldable pub row_in : List ℕ → Row
row_in t =
    record {
      owner = get_or t OWNER 0;
      shared = leb SHARED (get_or t KIND 0);
      len = get_or t KIND 0 % SHARED;
      bytes = digits 8 (get_or t LOW 0) ++ digits 8 (get_or t HIGH 0);
    }

-- a row that its four numbers show whole: a length of 1 to 16, and zeros behind the sequence
unfoldable pub whole_row : Row → Bool
whole_row r = fit_row r && eqb (length r.bytes) 16 && all is_byte r.bytes

-- ---- the rows one after another; unused cells are zero

unfoldable pub laid_cells : List Row → List ℕ
laid_cells rows = joined words (padded CELLS no_row rows)

unfoldable pub rows_in : List ℕ → ℕ → List Row
rows_in t used = parted row_in CELL used t

-- t is these rows laid out
pub record Rows (t : List ℕ) (rows : List Row) : Type 0 where
  pub is : t ≡ laid_cells rows
  pub few : length rows ≤ CELLS
  pub whole : all whole_row rows ≡ true

-- ---- one cell

abbrev pub cell_at : List ℕ → ℕ → Cell
cell_at t i =
    record {
      owner = get_or t (i * CELL + OWNER) 0;
      kind = get_or t (i * CELL + KIND) 0;
      low = get_or t (i * CELL + LOW) 0;
      high = get_or t (i * CELL + HIGH) 0;
    }

abbrev pub cell_set : List ℕ → ℕ → Cell → List ℕ
cell_set t i c = stores CELL t i ((OWNER, c.owner) ∷ (KIND, c.kind) ∷ (LOW, c.low) ∷ (HIGH, c.high) ∷ [])

abbrev pub four : Cell → List ℕ
four c = c.owner ∷ c.kind ∷ c.low ∷ c.high ∷ []

-- c has the four numbers of r
pub record Tells (c : Cell) (r : Row) : Type 0 where
  pub words : words r ≡ four c
  pub whole : whole_row r ≡ true

-- the first cells of t tell these rows, one by one
pub record Shows (t : List ℕ) (rows : List Row) : Type 0 where
  pub tells : (i : ℕ) → i < length rows → Tells (cell_at t i) (get_or rows i no_row)

abbrev pub no_cell : Cell
no_cell = record { owner = 0; kind = 0; low = 0; high = 0 }

-- ---- rows that go

-- what of the request r the cell c must tell: its owner, and its sequence where that is asked
pub record Names (part : Part) (c : Cell) (r : Row) : Type 0 where
  pub owner : c.owner ≡ r.owner
  pub whole : part ≡ Twin → Tells c r

-- the rows that stay when that part of the rows of r's owner goes
abbrev pub staying : Part → Row → List Row → List Row
staying part r rows = sift (λ earlier q. not (goes part r earlier q)) [] rows

-- t has them, k in number
pub record Left (part : Part) (r : Row) (rows : List Row) (t : List ℕ) (k : ℕ) : Type 0 where
  pub laid : Rows t (staying part r rows)
  pub count : k ≡ length (staying part r rows)
