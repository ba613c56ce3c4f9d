-- The events of a paper. Assumes nothing.
use Rattle.std.specs.Prelude.{ℕ, zero, suc, ◌+◌, ◌*◌, not, List, [], ◌∷◌, replicate}
use Rattle.locks.specs.Lists.{is_zero}
use Rattle.rules.specs.declared.state.Event.{Event}
use Rattle.papers.specs.Bytes.{number16, run}
use Rattle.papers.specs.Layout.{event_count}
use Rattle.papers.specs.Entries.{entry_at}
use Rattle.papers.specs.declared.entries.Entry.{Entry}

-- "A sequence is 16 bytes". They are counted from 1, and 0 is none
unfoldable pub sequence_of : List ℕ → ℕ → List ℕ
sequence_of p zero = replicate 16 0
sequence_of p (suc n) = run p (number16 p 8 + 16 * n) 16

-- an event of a paper, with the 16 bytes of its sequence, or zeros for none, in place of the number
abbrev pub with_sequence : (ℕ → List ℕ) → Entry → Event
with_sequence sequence e =
    record {
      kind = e.kind;
      call = e.call;
      caller = e.caller;
      d0 = e.d0;
      d1 = e.d1;
      d2 = e.d2;
      d3 = e.d3;
      a0 = e.a0;
      named = not (is_zero e.sequence);
      seq = sequence e.sequence;
    }

unfoldable pub event_at : List ℕ → ℕ → Event
event_at p at = with_sequence (sequence_of p) (entry_at p at)

-- n events from `at` on
abbrev pub events_from : List ℕ → ℕ → ℕ → List Event
events_from p at zero = []
events_from p at (suc n) = event_at p at ∷ events_from p (at + 20) n

abbrev pub events_of : List ℕ → List Event
events_of p = events_from p 12 (event_count p)
