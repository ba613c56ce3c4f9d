-- The numbers that the C desk gets. Assumes nothing.
use Rattle.std.specs.Prelude.{ℕ, ◌+◌, ◌*◌, ◌/◌, ◌%◌, Bool, cond, ◌||◌, eqb, leb, Ok, Err}
use Rattle.locks.specs.Lists.{between}
use Rattle.papers.specs.Fields.{number_of}
use Rattle.papers.specs.declared.layout.Refusal.{Refusal}
use Rattle.papers.specs.declared.layout.Refusal.TheVariants.{Badpaper, Blank, Badsheet, Noroom}
use Rattle.forms.specs.Adding.{counts, length_for, Added}
use Rattle.forms.specs.Adding as writer
use Rattle.forms.specs.declared.items.Writer.{Writer}
use Rattle.marker.specs.Key.{Keyed}
use Rattle.marker.specs.Mark.{Marked}

-- §1: "15 and 17 keep their numbers and places and gain the offset, .. added, times 65,536, to the desk's number."
abbrev pub refusal_number : Refusal → ℕ
refusal_number (Badpaper offset) = number_of (Badpaper offset) + 65536 * offset
refusal_number Blank = number_of Blank
refusal_number (Badsheet offset) = number_of (Badsheet offset) + 65536 * offset
refusal_number Noroom = number_of Noroom

-- "one 64-bit number: total, right, missing and surplus in 16 bits each, total highest; or, when refused, the refusal number"
abbrev pub mark_number : Marked → ℕ
mark_number (Ok m) = ((m.total * 65536 + m.right) * 65536 + m.missing) * 65536 + m.surplus
mark_number (Err r) = refusal_number r

-- the key's length, or the refusal number
abbrev pub key_number : Keyed → ℕ
key_number (Ok length) = length
key_number (Err r) = refusal_number r

-- ---- §3: a writer

-- the paper's length times 2^32, its events times 65,536, its sequences
abbrev pub writer_number : Writer → ℕ
writer_number w = (length_for w * 65536 + w.events) * 65536 + w.sequences

-- the counts alone are read back
abbrev pub writer_of : ℕ → Writer
writer_of n = counts (n / 65536 % 65536) (n % 65536)

-- the writer after an accepted call, or the refusal number
abbrev pub added_number : Added → ℕ
added_number (Ok w) = writer_number w
added_number (Err r) = writer.number_of r

-- ---- a refusal is told by its size, as in `brinefeather_refused` of desk/brinefeather.h

-- a key of one event has 22 bytes, and a longer one at least 38; no routine for C refuses by 22, or by a number above 27
abbrev pub is_length : ℕ → Bool
is_length n = eqb n 22 || between 28 65535 n

-- the refusal's number, or 0: marks and writers are 2^32 or more, refusals with their offset are less
abbrev pub refused_of : ℕ → ℕ
refused_of n = cond (leb 4294967296 n) 0 (cond (is_length n) 0 (n % 65536))

-- what it is to say: the number of the refusal, 0 for none
abbrev pub mark_refusal : Marked → ℕ
mark_refusal (Ok m) = 0
mark_refusal (Err r) = number_of r

abbrev pub key_refusal : Keyed → ℕ
key_refusal (Ok length) = 0
key_refusal (Err r) = number_of r

abbrev pub added_refusal : Added → ℕ
added_refusal (Ok w) = 0
added_refusal (Err r) = writer.number_of r
