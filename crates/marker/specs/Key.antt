-- The key of a paper, and what writing it leaves. Assumes nothing.
use Rattle.std.specs.Prelude.{ℕ, ◌+◌, ◌*◌, cond, List, ◌++◌, map, length, drop, ltb, Ok, Err}
use Rattle.rules.specs.State.{laid, fresh}
use Rattle.rules.specs.Play.{answers_from}
use Rattle.papers.specs.Bytes.{joined}
use Rattle.papers.specs.Layout.{event_count}
use Rattle.papers.specs.Fields.{Read, paper_of}
use Rattle.papers.specs.Events.{events_of}
use Rattle.papers.specs.Answers.{answer_bytes, sheet_header}
use Rattle.std.specs.declared.result.Result.{Result}
use Rattle.papers.specs.declared.layout.Refusal.{Refusal}
use Rattle.papers.specs.declared.layout.Refusal.TheVariants.{Noroom}

-- "to the first in the fresh state": the answers' bytes, place by place
unfoldable pub key_places : List ℕ → List (List ℕ)
key_places p = map answer_bytes (answers_from (laid fresh) (events_of p))

-- "A key is a sheet with one answer per event, in order"
unfoldable pub key_of : List ℕ → List ℕ
key_of p = sheet_header (event_count p) ++ joined (key_places p)

-- what becomes of a key: its length, or the refusal
abbrev pub Keyed : Type 0
Keyed = Result ℕ Refusal

-- "noroom: key buffer shorter than 6 + 16 x events". "A refused key writes no byte; an accepted key writes exactly its length and nothing after."
abbrev pub keyed_for : Read → List ℕ → List ℕ → Keyed × List ℕ
keyed_for (Err r) key buffer = (Err r, buffer)
keyed_for (Ok n) key buffer =
    cond (ltb (length buffer) (6 + 16 * n))
    (Err Noroom, buffer)
    (Ok (6 + 16 * n), key ++ drop (6 + 16 * n) buffer)

-- "For files: badpaper, blank, then .. noroom when writing a key": the answer, and the buffer after it
unfoldable pub keyed : List ℕ → List ℕ → Keyed × List ℕ
keyed p buffer = keyed_for (paper_of p) (key_of p) buffer
