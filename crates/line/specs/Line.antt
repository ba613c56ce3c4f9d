-- The line that a program prints, as bytes. Assumes nothing.
use Rattle.std.specs.Prelude.{ℕ, zero, suc, ◌+◌, ◌/◌, ◌%◌, ◌≤◌, ◌≡◌, cond, List, [], ◌∷◌, ◌++◌, length, take, drop, ltb, Ok, Err}
use Prim.Native.Char.{code}
use Prim.Native.String.{String, len, char_at}
use Rattle.std.proofs.lemmas.List.Edits.{sets}
use Rattle.papers.specs.Fields.{number_of}
use Rattle.papers.specs.declared.layout.Refusal.{Refusal}
use Rattle.papers.specs.declared.layout.Refusal.TheVariants.{Badpaper, Blank, Badsheet, Noroom}
use Rattle.marker.specs.Mark.{Marked, is_perfect}

-- the codes of n characters of a text, from place i on
abbrev pub codes : String → ℕ → ℕ → List ℕ
codes s i zero = []
codes s i (suc n) = code (char_at s i) ∷ codes s (suc i) n

-- a text in ASCII, a byte for each character
abbrev pub ascii : String → List ℕ
ascii s = codes s 0 (len s)

-- how many digits a number below 100,000 has
abbrev pub digit_count : ℕ → ℕ
digit_count n = cond (ltb n 10) 1 (cond (ltb n 100) 2 (cond (ltb n 1000) 3 (cond (ltb n 10000) 4 5)))

-- the last k digits of a number in decimal, the most significant first
abbrev pub last_digits : ℕ → ℕ → List ℕ
last_digits zero n = []
last_digits (suc k) n = last_digits k (n / 10) ++ ((48 + n % 10) ∷ [])

-- a number below 100,000 in decimal, without zeros in front
unfoldable pub decimal : ℕ → List ℕ
decimal n = last_digits (digit_count n) n

-- a number behind its name
abbrev pub named : String → ℕ → List ℕ
named name n = ascii name ++ decimal n

-- as in "`total 2 right 0 missing 2 surplus 0`"
unfoldable pub numbers_of : ℕ → ℕ → ℕ → ℕ → List ℕ
numbers_of total right missing surplus =
    named "total " total ++ named " right " right ++ named " missing " missing ++ named " surplus " surplus

-- §1: "15 and 17 .. gain the offset, printed last"
unfoldable pub offset_text : Refusal → List ℕ
offset_text (Badpaper offset) = named " " offset
offset_text Blank = []
offset_text (Badsheet offset) = named " " offset
offset_text Noroom = []

-- "A refusal prints `refused`, a space and its number."
unfoldable pub refused_line : Refusal → List ℕ
refused_line r = named "refused " (number_of r) ++ offset_text r ++ ascii "\n"

-- as in "Output: `total 2 right 0 missing 2 surplus 0 perfect no`."
unfoldable pub line_of : Marked → List ℕ
line_of (Ok m) =
    numbers_of m.total m.right m.missing m.surplus ++ ascii (cond (is_perfect (Ok m)) " perfect yes\n" " perfect no\n")
line_of (Err r) = refused_line r

-- `&xs[..n]` is in bounds, and has n bytes
abbrev pub IsPrefixLen : ℕ → List ℕ → Type 0
IsPrefixLen n xs = (n ≤ length xs) × (n ≡ length (take n xs))

-- the first n bytes of the buffer are the line, and the bytes after them are as they were
pub record Printed (line before : List ℕ) (n : ℕ) (after : List ℕ) : Type 0 where
  pub counts : IsPrefixLen n after
  pub first : take n after ≡ line
  pub rest : drop n after ≡ drop n before

-- a part of the line is stored from `at` up to `end`, and nothing else is
pub record Put (text : List ℕ) (at : ℕ) (before : List ℕ) (end : ℕ) (after : List ℕ) : Type 0 where
  pub ends : end ≡ at + length text
  pub room : end ≤ length after
  pub stored : after ≡ sets before at text
