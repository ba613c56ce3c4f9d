-- Lines written out. Assumes nothing.
use Prim.Native.String.{String}
use Rattle.std.specs.Prelude.{◌≡◌, List, [], ◌∷◌, map, Err}
use Rattle.papers.specs.declared.layout.Refusal.TheVariants.{Badpaper, Blank, Badsheet, Noroom}
use Rattle.line.specs.Line.{ascii, line_of}
use Rattle.marker.specs.Mark.{Marked, worth}

unfoldable pub table : List (Marked × String)
table =
    -- document 01's own
    (worth 2 0 2 0, "total 2 right 0 missing 2 surplus 0 perfect no\n")
    -- refusals with their offset, and those that have none
    ∷ (Err (Badpaper 10), "refused 15 10\n")
    ∷ (Err (Badsheet 2), "refused 17 2\n")
    ∷ (Err Blank, "refused 16\n")
    ∷ (Err Noroom, "refused 18\n")
    ∷ (Err (Badpaper 0), "refused 15 0\n")
    ∷ (Err (Badsheet 0), "refused 17 0\n")
    ∷ (Err (Badpaper 20010), "refused 15 20010\n")
    ∷ (Err (Badpaper 65535), "refused 15 65535\n")
    -- all right; one wrong; all right, with an answer over
    ∷ (worth 1000 1000 0 0, "total 1000 right 1000 missing 0 surplus 0 perfect yes\n")
    ∷ (worth 1000 999 0 0, "total 1000 right 999 missing 0 surplus 0 perfect no\n")
    ∷ (worth 9 9 0 1, "total 9 right 9 missing 0 surplus 1 perfect no\n")
    -- numbers where a digit is added, and the longest line
    ∷ (worth 10 99 100 9999, "total 10 right 99 missing 100 surplus 9999 perfect no\n")
    ∷ (worth 10000 10000 65535 0, "total 10000 right 10000 missing 65535 surplus 0 perfect yes\n")
    ∷ (worth 65535 10000 65535 65535, "total 65535 right 10000 missing 65535 surplus 65535 perfect no\n")
    ∷ []

-- the line of each mark is the text beside it
abbrev pub LineCases : Type 0
LineCases = map (λ c. line_of c.0) table ≡ map (λ c. ascii c.1) table
