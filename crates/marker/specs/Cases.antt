-- The worked cases of document 01, (a) to (l), as one table. Assumes nothing.
use Rattle.std.specs.Prelude.{ℕ, ◌≡◌, Bool, List, [], ◌∷◌, ◌++◌, map, replicate, Ok, Err}
use Prim.Native.String.{String}
use Rattle.rules.specs.declared.state.Answer.{Answer}
use Rattle.papers.specs.declared.layout.Refusal.TheVariants.{Badpaper, Blank, Badsheet, Noroom}
use Rattle.rules.specs.Script.{Case}
use Rattle.rules.specs.Script as script
use Rattle.rules.specs.Cases as rules
use Rattle.marker.specs.Key.{Keyed, keyed}
use Rattle.marker.specs.Mark.{Marked, worth, marked}
use Rattle.marker.specs.Promises.{blank_sheet}

-- a case of events; or a paper, a sheet and its mark; or a paper and a buffer, what is answered and the buffer after it. The last two have a name
pub data Row : Type 0 where
  played : Case → Row
  handed : String → List ℕ → List ℕ → Marked → Row
  lent : String → List ℕ → List ℕ → Keyed → List ℕ → Row

-- answers to events and a test of the machine after them; or a mark; or what became of a key
pub data Result : Type 0 where
  answers : List Answer × Bool → Result
  mark : Marked → Result
  key : Keyed × List ℕ → Result

abbrev pub comes : Row → Result
comes (played c) = answers (script.comes c)
comes (handed name paper sheet m) = mark (marked paper sheet)
comes (lent name paper buffer k after) = key (keyed paper buffer)

abbrev pub should : Row → Result
should (played c) = answers (script.should c)
should (handed name paper sheet m) = mark m
should (lent name paper buffer k after) = key (k, after)

-- "Paper `0001 0002 000C 0000 0034 0034`, then event `01 3A 0001` and sixteen zero bytes, then event `02` and nineteen zero bytes."
abbrev pub example_paper : List ℕ
example_paper =
    0 ∷ 1 ∷ 0 ∷ 2 ∷ 0 ∷ 12 ∷ 0 ∷ 0 ∷ 0 ∷ 0x34 ∷ 0 ∷ 0x34
    ∷ 1 ∷ 0x3A ∷ 0 ∷ 1 ∷ replicate 16 0
    ++ 2 ∷ replicate 19 0

-- its answers: process 1 has PID 1, and nothing comes of the tick
abbrev first : List ℕ
first = replicate 11 0 ++ 1 ∷ 0 ∷ 0 ∷ 0 ∷ 0 ∷ []

abbrev second : List ℕ
second = replicate 16 0

-- process 1 makes a process, and that asks its PID: 2, in both answers
abbrev family_paper : List ℕ
family_paper =
    0 ∷ 1 ∷ 0 ∷ 2 ∷ 0 ∷ 12 ∷ 0 ∷ 0 ∷ 0 ∷ 0x34 ∷ 0 ∷ 0x34
    ∷ 1 ∷ 0x48 ∷ 0 ∷ 1 ∷ replicate 16 0
    ++ 1 ∷ 0x3A ∷ 0 ∷ 2 ∷ replicate 16 0

abbrev pid_two : List ℕ
pid_two = replicate 11 0 ++ 2 ∷ 0 ∷ 0 ∷ 0 ∷ 0 ∷ []

-- a sheet of so many answers
abbrev sheet : ℕ → List ℕ → List ℕ
sheet n bytes = 0 ∷ 1 ∷ 0 ∷ n ∷ 0 ∷ 6 ∷ bytes

-- papers of a header alone; of one sequence and no event; of one event, which names a sequence that is not there
abbrev no_events : List ℕ
no_events = 0 ∷ 1 ∷ 0 ∷ 0 ∷ 0 ∷ 12 ∷ 0 ∷ 0 ∷ 0 ∷ 12 ∷ 0 ∷ 12 ∷ []

abbrev one_sequence : List ℕ
one_sequence = 0 ∷ 1 ∷ 0 ∷ 0 ∷ 0 ∷ 12 ∷ 0 ∷ 1 ∷ 0 ∷ 12 ∷ 0 ∷ 28 ∷ replicate 16 0x41

abbrev no_such_sequence : List ℕ
no_such_sequence = 0 ∷ 1 ∷ 0 ∷ 1 ∷ 0 ∷ 12 ∷ 0 ∷ 0 ∷ 0 ∷ 32 ∷ 0 ∷ 32 ∷ 1 ∷ 0x3A ∷ 0 ∷ 1 ∷ replicate 14 0 ++ 0 ∷ 1 ∷ []

unfoldable pub files : List Row
files =
    handed "(l) blank sheet" example_paper blank_sheet (worth 2 0 2 0)
    -- places that are right, missing and over
    ∷ handed "the key as a sheet" example_paper (sheet 2 (first ++ second)) (worth 2 2 0 0)
    ∷ handed "the answers exchanged" example_paper (sheet 2 (second ++ first)) (worth 2 0 0 0)
    ∷ handed "one byte another" example_paper (sheet 2 (first ++ 0 ∷ 0 ∷ 0 ∷ 0 ∷ 0 ∷ 0 ∷ 0 ∷ 1 ∷ replicate 8 0)) (worth 2 1 0 0)
    ∷ handed "an answer missing" example_paper (sheet 1 first) (worth 2 1 1 0)
    ∷ handed "an answer over" example_paper (sheet 3 (first ++ second ++ second)) (worth 2 2 0 1)
    -- 15 badpaper; before the sheet is looked at
    ∷ handed "an empty paper" [] blank_sheet (Err (Badpaper 0))
    ∷ handed "a paper, one byte too long" (example_paper ++ 0 ∷ []) blank_sheet (Err (Badpaper 10))
    ∷ handed "a name above the count" no_such_sequence blank_sheet (Err (Badpaper 30))
    ∷ handed "both empty" [] [] (Err (Badpaper 0))
    -- 16 blank, with a sequence or without; before the sheet is looked at
    ∷ handed "no events" no_events blank_sheet (Err Blank)
    ∷ handed "a sequence and no events" one_sequence blank_sheet (Err Blank)
    ∷ handed "no events, a byte too long" (no_events ++ 0 ∷ []) blank_sheet (Err (Badpaper 10))
    ∷ handed "no events, and an empty sheet" no_events [] (Err Blank)
    -- 17 badsheet
    ∷ handed "an empty sheet" example_paper [] (Err (Badsheet 0))
    ∷ handed "a sheet, one byte too long" example_paper (blank_sheet ++ 0 ∷ []) (Err (Badsheet 2))
    ∷ handed "a sheet of another offset" example_paper (0 ∷ 1 ∷ 0 ∷ 0 ∷ 0 ∷ 7 ∷ []) (Err (Badsheet 4))
    ∷ handed "a sheet of five bytes" example_paper (0 ∷ 1 ∷ 0 ∷ 0 ∷ 0 ∷ []) (Err (Badsheet 5))
    -- the paper's place, not the sheet's
    ∷ handed "a name above the count, and a sheet too long" no_such_sequence (blank_sheet ++ 0 ∷ []) (Err (Badpaper 30))
    -- a key, and what lay behind it
    ∷ lent "a key, exact room" example_paper (replicate 38 7) (Ok 38) (sheet 2 (first ++ second))
    ∷ lent "a key, more room" example_paper (replicate 41 7) (Ok 38) (sheet 2 (first ++ second ++ 7 ∷ 7 ∷ 7 ∷ []))
    ∷ lent "a key, each answer in the state that the events before it left" family_paper (replicate 38 7) (Ok 38) (sheet 2 (pid_two ++ pid_two))
    -- 15, then 16, then 18 noroom, a byte short of 6 + 16 x 2; the buffer as it was
    ∷ lent "a key of an empty paper" [] (replicate 9 7) (Err (Badpaper 0)) (replicate 9 7)
    ∷ lent "a key of a paper, one byte too long" (example_paper ++ 0 ∷ []) (replicate 9 7) (Err (Badpaper 10)) (replicate 9 7)
    ∷ lent "a key of a bad paper, no room" no_such_sequence [] (Err (Badpaper 30)) []
    ∷ lent "a key of no events, no room" no_events [] (Err Blank) []
    ∷ lent "a key, a byte short" example_paper (replicate 37 7) (Err Noroom) (replicate 37 7)
    ∷ []

-- (a) to (k), the slips, and more: the table of the rules; then (l) and other files
unfoldable pub table : List Row
table = map played rules.table ++ files

abbrev pub WorkedCases : Type 0
WorkedCases = map comes table ≡ map should table
