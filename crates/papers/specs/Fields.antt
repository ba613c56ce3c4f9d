-- Where a file is broken, and what reading it finds. "§1: .." are the words of request §1. Assumes nothing.
use Rattle.std.specs.Prelude.{ℕ, zero, suc, ◌+◌, ◌*◌, Bool, true, cond, ◌&&◌, List, [], ◌∷◌, ◌++◌, length, eqb, ltb, Ok, Err, ⊤}
use Rattle.locks.specs.Lists.{is_zero}
use Rattle.papers.specs.Layout.{field, event_count, sequence_count, sequences_at, paper_length, answer_count}
use Rattle.std.specs.declared.result.Result.{Result}
use Rattle.papers.specs.declared.layout.Broken.{Broken}
use Rattle.papers.specs.declared.layout.Refusal.{Refusal}
use Rattle.papers.specs.declared.layout.Refusal.TheVariants.{Badpaper, Blank, Badsheet, Noroom}

-- the table of refusals, those of files: "No. | Name". §1: "15 and 17 keep their numbers and places and gain the offset"
abbrev pub number_of : Refusal → ℕ
number_of (Badpaper at) = 15
number_of Blank = 16
number_of (Badsheet at) = 17
number_of Noroom = 18

-- ---- one field

-- a field keeps its rule, or is broken at this offset
abbrev pub Field : Type 0
Field = Result ⊤ Broken

abbrev pub fault : ℕ → Field
fault at = Err (record { at = at })

-- the rule of a field of 16 bits: where it stands, the least and the most that it may be, and whether what else its rule asks is so
pub record Rule : Type 0 where
  pub at : ℕ
  pub low : ℕ
  pub high : ℕ
  pub also : Bool

abbrev pub rule : ℕ → ℕ → ℕ → Bool → Rule
rule at low high also = record { at = at; low = low; high = high; also = also }

abbrev pub keeps : List ℕ → Rule → Bool
keeps file r = field file r.at r.low r.high && r.also

-- §1: "The step that reads one field promises this": the field keeps its rule, or is broken at its offset
unfoldable pub tested : List ℕ → Rule → Field
tested file r = cond (keeps file r) (Ok tt) (fault r.at)

-- ---- fields in file order

-- what is found ahead, or else behind
abbrev pub first_of : Field → Field → Field
first_of (Ok kept) behind = behind
first_of (Err b) behind = Err b

-- §1: "the first field, in file order, that breaks its rule"
abbrev pub first_broken : List ℕ → List Rule → Field
first_broken file [] = Ok tt
first_broken file (r ∷ rules) = first_of (tested file r) (first_broken file rules)

-- §1: "a file too short for its header gives its own length"
abbrev pub broken_at : ℕ → List ℕ → List Rule → Field
broken_at header file rules = cond (ltb (length file) header) (fault (length file)) (first_broken file rules)

-- ---- what reading a file finds: how many events or answers it has, or its refusal

abbrev pub Read : Type 0
Read = Result ℕ Refusal

-- ---- a paper

-- "version 1, event count 0..1,000, event offset 12, sequence count 0..64, sequence offset 12 + 20e, length 12 + 20e + 16s, which is the file's length."
abbrev pub header_rules : List ℕ → List Rule
header_rules p =
    rule 0 1 1 true
    ∷ rule 2 0 1000 true
    ∷ rule 4 12 12 true
    ∷ rule 6 0 64 true
    ∷ rule 8 (sequences_at p) (sequences_at p) true
    ∷ rule 10 (paper_length p) (paper_length p) (eqb (length p) (paper_length p))
    ∷ []

-- "sequence number (2; 0 none, at most the count)", of the n events from `at` on
abbrev pub name_rules : List ℕ → ℕ → ℕ → List Rule
name_rules p at zero = []
name_rules p at (suc n) = rule (at + 18) 0 (sequence_count p) true ∷ name_rules p (at + 20) n

abbrev pub paper_rules : List ℕ → List Rule
paper_rules p = header_rules p ++ name_rules p 12 (event_count p)

unfoldable pub paper_field : List ℕ → Field
paper_field p = broken_at 12 p (paper_rules p)

-- "badpaper: paper layout", "blank: paper sound in all else, with no events"
abbrev pub paper_for : Field → ℕ → Read
paper_for (Err b) events = Err (Badpaper b.at)
paper_for (Ok kept) events = cond (is_zero events) (Err Blank) (Ok events)

unfoldable pub paper_of : List ℕ → Read
paper_of p = paper_for (paper_field p) (event_count p)

-- ---- a sheet

-- "version 1, answer count 0..1,000, offset 6 ..; the length is exact." §1: "a sheet of wrong length breaks at its count"
abbrev pub sheet_rules : List ℕ → List Rule
sheet_rules s =
    rule 0 1 1 true
    ∷ rule 2 0 1000 (eqb (length s) (6 + 16 * answer_count s))
    ∷ rule 4 6 6 true
    ∷ []

unfoldable pub sheet_field : List ℕ → Field
sheet_field s = broken_at 6 s (sheet_rules s)

-- "badsheet: sheet layout". "The sheet's answer bytes are not tested further."
abbrev pub sheet_for : Field → ℕ → Read
sheet_for (Err b) answers = Err (Badsheet b.at)
sheet_for (Ok kept) answers = Ok answers

unfoldable pub sheet_of : List ℕ → Read
sheet_of s = sheet_for (sheet_field s) (answer_count s)
