-- What is proved of the desk's numbers, for every paper, sheet, buffer, writer and item. Assumes nothing.
use Rattle.std.specs.Prelude.{ℕ, ◌≡◌, List, Ok, Err}
use Rattle.papers.specs.Fields.{paper_of}
use Rattle.papers.specs.declared.layout.Refusal.{Refusal}
use Rattle.marker.specs.Key.{keyed}
use Rattle.marker.specs.Mark.{marked}
use Rattle.forms.specs.declared.items.Writer.{Writer}
use Rattle.forms.specs.Adding.{Item, added}
use Rattle.brinefeather.specs.Desk.{mark_number, key_number, writer_number, writer_of, added_number, refused_of, mark_refusal, key_refusal, added_refusal}

-- §1: "its callers, the marker and the key writer pass it on": a paper that is refused has one number, whichever of the two is asked
abbrev pub OneNumber : Type 0
OneNumber = (p s buffer : List ℕ) (r : Refusal) → paper_of p ≡ Err r → mark_number (marked p s) ≡ key_number (keyed p buffer).0

-- "the two never meet": who has the number has the outcome
pub record NumbersDiffer : Type 0 where
  pub marks : (p s q t : List ℕ) → mark_number (marked p s) ≡ mark_number (marked q t) → marked p s ≡ marked q t
  pub keys : (p buffer q other : List ℕ) → key_number (keyed p buffer).0 ≡ key_number (keyed q other).0 → (keyed p buffer).0 ≡ (keyed q other).0
  pub writers : (w v : Writer) (b c : List ℕ) (i j : Item) → added_number (added w b i).0 ≡ added_number (added v c j).0 → (added w b i).0 ≡ (added v c j).0

-- §3: what an accepted call returned is its writer at the next call
abbrev pub WritersReadBack : Type 0
WritersReadBack = (w w' : Writer) (b : List ℕ) (i : Item) → (added w b i).0 ≡ Ok w' → writer_of (writer_number w') ≡ w'

-- whatever a routine returned, its size says whether it is a refusal and which
pub record RefusalsTold : Type 0 where
  pub marks : (p s : List ℕ) → refused_of (mark_number (marked p s)) ≡ mark_refusal (marked p s)
  pub keys : (p buffer : List ℕ) → refused_of (key_number (keyed p buffer).0) ≡ key_refusal (keyed p buffer).0
  pub writers : (w : Writer) (b : List ℕ) (i : Item) → refused_of (added_number (added w b i).0) ≡ added_refusal (added w b i).0
