-- The bytes of a paper that has given events and sequences. Assumes nothing.
use Rattle.std.specs.Prelude.{ℕ, zero, suc, ◌+◌, ◌*◌, List, ◌∷◌, ◌++◌, map, length, get_or, replicate}
use Rattle.rules.specs.declared.state.Event.{Event}
use Rattle.papers.specs.Bytes.{bytes16, bytes32, joined}
use Rattle.papers.specs.Events.{with_sequence}
use Rattle.papers.specs.declared.entries.Entry.{Entry}

-- "Event, 20 bytes: kind, call, caller (2), D0 (2), D1 (2), D2 (2), D3 (4), A0 (4), sequence number (2; ..)."
unfoldable pub entry_bytes : Entry → List ℕ
entry_bytes e =
    e.kind
    ∷ e.call
    ∷ bytes16 e.caller
    ++ bytes16 e.d0
    ++ bytes16 e.d1
    ++ bytes16 e.d2
    ++ bytes32 e.d3
    ++ bytes32 e.a0
    ++ bytes16 e.sequence

-- "length 12 + 20e + 16s"
abbrev pub length_of : ℕ → ℕ → ℕ
length_of e s = 12 + 20 * e + 16 * s

-- "Paper header, 12 bytes as six 16-bit numbers: version 1, event count .., event offset 12, sequence count .., sequence offset 12 + 20e, length 12 + 20e + 16s"
unfoldable pub paper_header : ℕ → ℕ → List ℕ
paper_header e s = bytes16 1 ++ bytes16 e ++ bytes16 12 ++ bytes16 s ++ bytes16 (12 + 20 * e) ++ bytes16 (length_of e s)

-- the header, the events and the sequences, each of them one after another
unfoldable pub paper_bytes : List Entry → List (List ℕ) → List ℕ
paper_bytes es ss = paper_header (length es) (length ss) ++ joined (map entry_bytes es) ++ joined ss

-- ---- the events that this paper has

-- sequence n of those given, counted from 1; zeros for none
abbrev pub nth : List (List ℕ) → ℕ → List ℕ
nth ss zero = replicate 16 0
nth ss (suc n) = get_or ss n (replicate 16 0)

abbrev pub event_of : List (List ℕ) → Entry → Event
event_of ss e = with_sequence (nth ss) e
