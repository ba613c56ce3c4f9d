-- A row and its cell. Assumes nothing.
use Rattle.std.proofs.Common.{◌≡◌, ℕ, ◌+◌, sym, true, cond, [], ◌∷◌, length, eq-eqb}
use mathlib.Core.Bool.{◌&&◌}
use lib.Dec.{eqb}
use native.Mathlib.Nat.{div-div-eq-div-mul}
use Rattle.std.specs.Int.{w64, to_le_bytes}
use Rattle.locks.specs.Lists.{all}
use Rattle.locks.specs.Words.{Worded, digits, fit_row, is_byte}
use Rattle.locks.specs.Cells.{Tells, whole_row, words}
use Rattle.locks.specs.declared.rows.Row.{Row}
use Rattle.locks.specs.declared.words.Words.{Words}
use Rattle.locks.proofs.Tests.{and-join}

pub cell-tells : (r : Row) {w : Words} {o k : ℕ} → o ≡ r.owner → k ≡ r.len + cond r.shared 256 0 → Worded r.bytes w → fit_row r ≡ true
    → Tells (record { owner = o; kind = k; low = w.low; high = w.high }) r
unfolding words whole_row
cell-tells r o k b h =
    record {
      words = λ i. sym o i ∷ sym k i ∷ sym b.first i ∷ sym b.last i ∷ [];
      whole = and-join (fit_row r && eqb (length r.bytes) 16) (all is_byte r.bytes) (and-join (fit_row r) (eqb (length r.bytes) 16) h (eq-eqb (length r.bytes) 16 b.long)) b.small;
    }

pub digits-bytes : (n : ℕ) → to_le_bytes w64 n ≡ digits 8 n
digits-bytes n =
    rw (
      div-div-eq-div-mul n 256 256,
      div-div-eq-div-mul n 65536 256,
      div-div-eq-div-mul n 16777216 256,
      div-div-eq-div-mul n 4294967296 256,
      div-div-eq-div-mul n 1099511627776 256,
      div-div-eq-div-mul n 281474976710656 256,
    )
