-- Rows that stay, moved up, and what lies behind them until it is cleared. Assumes nothing.
use Rattle.std.specs.Prelude.{ℕ, ◌-◌, ◌≤◌, ◌≡◌, List, ◌++◌, length, take, drop, replicate}
use Rattle.locks.specs.Rows.{no_row}
use Rattle.locks.specs.declared.rows.Row.{Row}
use Rattle.locks.specs.declared.rows.Part.{Part}
use Rattle.locks.specs.Pieces.{joined}
use Rattle.locks.specs.Cells.{CELLS, words, staying}

-- places from k up to n unused
abbrev pub unused : {A : Type 0} → A → ℕ → ℕ → List A → List A
unused z k n ys = take k ys ++ (replicate (n - k) z ++ drop n ys)

-- t begins with these rows, and from the cell used on its cells are zero
pub record Trails (t : List ℕ) (stay : List Row) (used : ℕ) : Type 0 where
  pub ys : List Row
  pub is : t ≡ joined words ys
  pub long : length ys ≡ CELLS
  pub few : length stay ≤ used
  pub first : take (length stay) ys ≡ stay
  pub last : drop used ys ≡ replicate (CELLS - used) no_row

-- t begins with the rows that stay, k in number
pub record Closed (part : Part) (r : Row) (rows : List Row) (t : List ℕ) (k : ℕ) : Type 0 where
  pub trails : Trails t (staying part r rows) (length rows)
  pub count : k ≡ length (staying part r rows)
