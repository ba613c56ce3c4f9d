-- What is proved of keys and marks, for every paper, sheet and buffer. Assumes nothing.
use Rattle.std.specs.Prelude.{ℕ, ◌+◌, ◌*◌, ◌≤◌, ◌≡◌, true, List, [], ◌∷◌, ◌++◌, ◌↔◌, ◌≢◌, length, Ok, Err}
use Rattle.papers.specs.Layout.{event_count, answer_count, paper_fits, sheet_fits}
use Rattle.papers.specs.Fields.{paper_of}
use Rattle.papers.specs.Answers.{places_of}
use Rattle.papers.specs.declared.layout.Refusal.{Refusal}
use Rattle.papers.specs.declared.layout.Refusal.TheVariants.{Badpaper, Blank, Badsheet, Noroom}
use Rattle.marker.specs.Key.{key_places, key_of, Keyed, keyed}
use Rattle.marker.specs.Mark.{right_places, Marked, worth, marked, is_perfect}

-- both files are laid out right, the paper has at least one event, the sheet has as many answers, and every answer's 16 bytes are the key's
pub record AllRight (p s : List ℕ) : Type 0 where
  pub paper : paper_fits p ≡ true
  pub sheet : sheet_fits s ≡ true
  pub some : 1 ≤ event_count p
  pub count : answer_count s ≡ event_count p
  pub bytes : places_of s ≡ key_places p

-- demand 2: "Full marks mean every event of a paper with at least one event was answered rightly, with no answer over."
abbrev pub PerfectExact : Type 0
PerfectExact = (p s : List ℕ) → (is_perfect (marked p s) ≡ true) ↔ AllRight p s

-- "right is the number of places where all 16 bytes agree": each place counts by itself, one where they agree and none where they do not, or where one of the two has none
pub record PlacesCount : Type 0 where
  pub parts : (key sheet more over : List (List ℕ)) → length key ≡ length sheet
      → right_places (key ++ more) (sheet ++ over) ≡ right_places key sheet + right_places more over
  pub right : (x : List ℕ) → right_places (x ∷ []) (x ∷ []) ≡ 1
  pub wrong : (x y : List ℕ) → length x ≡ 16 → length y ≡ 16 → x ≢ y → right_places (x ∷ []) (y ∷ []) ≡ 0
  pub missing : (more : List (List ℕ)) → right_places more [] ≡ 0
  pub over : (over : List (List ℕ)) → right_places [] over ≡ 0

-- "Sheet `0001 0000 0006`"
abbrev pub blank_sheet : List ℕ
blank_sheet = 0 ∷ 1 ∷ 0 ∷ 0 ∷ 0 ∷ 6 ∷ []

-- (l) "blank sheet: right 0", of every paper that is not refused: and all is missing
abbrev pub BlankNothing : Type 0
BlankNothing = (p : List ℕ) → paper_fits p ≡ true → 1 ≤ event_count p → marked p blank_sheet ≡ worth (event_count p) 0 (event_count p) 0

-- "an accepted key writes exactly its length": what `keyed` puts before the rest of the buffer is as long as it answers
abbrev pub KeyLong : Type 0
KeyLong = (p : List ℕ) → length (key_of p) ≡ 6 + 16 * event_count p

-- the key of a paper that is not refused, handed in as a sheet, is perfect
abbrev pub KeyPerfect : Type 0
KeyPerfect = (p : List ℕ) → paper_fits p ≡ true → 1 ≤ event_count p → is_perfect (marked p (key_of p)) ≡ true

-- every mark is from the rules' list: counts in their ranges, or a refusal by 15, 16 or 17, with an offset that a paper or a sheet has
pub data MarkListed : Marked → Type 0 where
  counts : (total right missing surplus : ℕ) → 1 ≤ total → total ≤ 1000 → right + missing ≤ total → surplus ≤ 1000 → MarkListed (worth total right missing surplus)
  badpaper : (offset : ℕ) → offset ≤ 20010 → MarkListed (Err (Badpaper offset))
  blank : MarkListed (Err Blank)
  badsheet : (offset : ℕ) → offset ≤ 5 → MarkListed (Err (Badsheet offset))

abbrev pub MarksListed : Type 0
MarksListed = (p s : List ℕ) → MarkListed (marked p s)

-- so is every answer to the writing of a key: the length for 1 to 1,000 events, which the buffer has room for, or a refusal by 15, 16 or 18
pub data KeyListed (room : ℕ) : Keyed → Type 0 where
  writes : (n : ℕ) → 1 ≤ n → n ≤ 1000 → 6 + 16 * n ≤ room → KeyListed room (Ok (6 + 16 * n))
  badpaper : (offset : ℕ) → offset ≤ 20010 → KeyListed room (Err (Badpaper offset))
  blank : KeyListed room (Err Blank)
  noroom : KeyListed room (Err Noroom)

abbrev pub KeysListed : Type 0
KeysListed = (p buffer : List ℕ) → KeyListed (length buffer) (keyed p buffer).0

-- §1: "its callers, the marker and the key writer pass it on": a paper that is refused has one refusal, whichever of the two is asked
pub record OneRefusal : Type 0 where
  pub same : (p s buffer : List ℕ) (r : Refusal) → paper_of p ≡ Err r → (marked p s ≡ Err r) × ((keyed p buffer).0 ≡ Err r)
  pub offset : (p s buffer : List ℕ) (offset : ℕ) → (marked p s ≡ Err (Badpaper offset)) ↔ ((keyed p buffer).0 ≡ Err (Badpaper offset))
