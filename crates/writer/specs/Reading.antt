-- What the reader's answer says of a paper. Assumes nothing.
use Rattle.std.specs.Prelude.{ℕ, Bool, false, eqb, Ok, Err}
use Rattle.papers.specs.declared.layout.Refusal.TheVariants.{Badpaper, Blank, Badsheet, Noroom}
use Rattle.papers.specs.Fields.{Read}

-- the paper is laid out right and has so many events. "blank: paper sound in all else, with no events"
abbrev pub finds : Read → ℕ → Bool
finds (Ok n) events = eqb n events
finds (Err Blank) events = eqb events 0
finds (Err (Badpaper at)) events = false
finds (Err (Badsheet at)) events = false
finds (Err Noroom) events = false
