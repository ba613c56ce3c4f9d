-- The mark of a sheet. Assumes nothing.
use Rattle.std.specs.Prelude.{ℕ, ◌+◌, ◌-◌, Bool, false, cond, ◌&&◌, List, [], ◌∷◌, eqb, Ok, Err}
use Rattle.locks.specs.Lists.{agree, is_zero}
use Rattle.papers.specs.Fields.{Read, paper_of, sheet_of}
use Rattle.papers.specs.Answers.{places_of}
use Rattle.std.specs.declared.result.Result.{Result}
use Rattle.papers.specs.declared.layout.Refusal.{Refusal}
use Rattle.marker.specs.Key.{key_places}
use Rattle.marker.specs.declared.marks.Counts.{Counts}

-- "right is the number of places where all 16 bytes agree"
abbrev pub right_places : List (List ℕ) → List (List ℕ) → ℕ
right_places [] sheet = 0
right_places (x ∷ key) [] = 0
right_places (x ∷ key) (y ∷ sheet) = cond (agree 16 x y) 1 0 + right_places key sheet

-- what a sheet is worth: its counts, or the refusal
abbrev pub Marked : Type 0
Marked = Result Counts Refusal

abbrev pub worth : ℕ → ℕ → ℕ → ℕ → Marked
worth total right missing surplus = Ok (record { total = total; right = right; missing = missing; surplus = surplus })

-- "Total is the event count; .. missing is total less the answer count and surplus the answer count less total, neither below 0"
abbrev pub marked_for : Read → Read → ℕ → Marked
marked_for (Err r) sheet right = Err r
marked_for (Ok total) (Err r) right = Err r
marked_for (Ok total) (Ok answers) right = worth total right (total - answers) (answers - total)

-- "For files: badpaper, blank, then badsheet when marking"
unfoldable pub marked : List ℕ → List ℕ → Marked
marked p s = marked_for (paper_of p) (sheet_of s) (right_places (key_places p) (places_of s))

-- "perfect means right is total and surplus 0"
abbrev pub is_perfect : Marked → Bool
is_perfect (Ok m) = eqb m.right m.total && is_zero m.surplus
is_perfect (Err r) = false
