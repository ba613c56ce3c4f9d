-- The bytes of a row as two numbers. Assumes nothing.
use Rattle.std.specs.Prelude.{ℕ, zero, suc, ◌+◌, ◌*◌, ◌/◌, ◌%◌, ◌≡◌, Bool, true, ◌&&◌, List, [], ◌∷◌, ltb, length, take, drop}
use Rattle.locks.specs.Lists.{all, between, is_zero}
use Rattle.locks.specs.declared.rows.Row.{Row}
use Rattle.locks.specs.declared.words.Words.{Words}

abbrev pub is_byte : ℕ → Bool
is_byte b = ltb b 256

-- the number with these digits, the lowest first
abbrev pub value : List ℕ → ℕ
value [] = 0
value (b ∷ bytes) = b + 256 * value bytes

-- the n lowest digits of a number, the lowest first
abbrev pub digits : ℕ → ℕ → List ℕ
digits zero v = []
digits (suc n) v = v % 256 ∷ digits n (v / 256)

-- w has the sixteen bytes
pub record Worded (bytes : List ℕ) (w : Words) : Type 0 where
  pub long : length bytes ≡ 16
  pub small : all is_byte bytes ≡ true
  pub first : w.low ≡ value (take 8 bytes)
  pub last : w.high ≡ value (drop 8 bytes)

-- what `sound_row` asks, the owner aside
unfoldable pub fit_row : Row → Bool
fit_row r = between 1 16 r.len && all is_zero (drop r.len r.bytes)

-- w has the bytes of r, which is such a row
pub record Told (r : Row) (w : Words) : Type 0 where
  pub fit : fit_row r ≡ true
  pub words : Worded r.bytes w

-- r told by numbers
pub record Note (r : Row) (low high len owner : ℕ) (shared : Bool) : Type 0 where
  pub row : Told r (record { low = low; high = high })
  pub long : len ≡ r.len
  pub from : owner ≡ r.owner
  pub kind : shared ≡ r.shared
