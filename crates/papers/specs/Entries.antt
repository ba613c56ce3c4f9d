-- The events of a paper as it has them, and its sequences. Assumes nothing.
use Rattle.std.specs.Prelude.{ℕ, zero, suc, ◌+◌, List, [], ◌∷◌, get_or}
use Rattle.papers.specs.Bytes.{number16, number32, sixteens_from}
use Rattle.papers.specs.Layout.{event_count, sequence_count, sequences_at}
use Rattle.papers.specs.declared.entries.Entry.{Entry}

-- "Event, 20 bytes: kind, call, caller (2), D0 (2), D1 (2), D2 (2), D3 (4), A0 (4), sequence number (2; 0 none ..)."
unfoldable pub entry_at : List ℕ → ℕ → Entry
entry_at p at =
    record {
      kind = get_or p at 0;
      call = get_or p (at + 1) 0;
      caller = number16 p (at + 2);
      d0 = number16 p (at + 4);
      d1 = number16 p (at + 6);
      d2 = number16 p (at + 8);
      d3 = number32 p (at + 10);
      a0 = number32 p (at + 14);
      sequence = number16 p (at + 18);
    }

-- n events from `at` on
abbrev pub entries_from : List ℕ → ℕ → ℕ → List Entry
entries_from p at zero = []
entries_from p at (suc n) = entry_at p at ∷ entries_from p (at + 20) n

-- "event offset 12"
abbrev pub entries_of : List ℕ → List Entry
entries_of p = entries_from p 12 (event_count p)

-- "sequence offset 12 + 20e"
abbrev pub sequences_of : List ℕ → List (List ℕ)
sequences_of p = sixteens_from p (sequences_at p) (sequence_count p)
