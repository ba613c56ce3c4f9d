-- A writer of papers: what a call answers, and the buffer after it. "§3: .." are the words of request §3. Assumes nothing.
use Rattle.std.specs.Prelude.{ℕ, ◌+◌, ◌*◌, Bool, cond, not, ◌&&◌, List, [], ◌∷◌, ◌++◌, length, take, drop, eqb, leb, ltb, Result, Ok, Err}
use Rattle.locks.specs.Lists.{is_zero}
use Rattle.papers.specs.Bytes.{sixteens_from}
use Rattle.papers.specs.Layout.{event_count, sequence_count, paper_fits}
use Rattle.papers.specs.Entries.{entries_from}
use Rattle.papers.specs.declared.entries.Entry.{Entry}
use Rattle.forms.specs.Form.{length_of, paper_bytes}
use Rattle.forms.specs.declared.items.Writer.{Writer}
use Rattle.forms.specs.declared.items.Refusal.{Refusal}
use Rattle.forms.specs.declared.items.Refusal.TheVariants.{Badpaper, Order, Full, Noroom}

-- §3: "badpaper 15", "order 26", "full 20", "noroom 18"
abbrev pub number_of : Refusal → ℕ
number_of Badpaper = 15
number_of Order = 26
number_of Full = 20
number_of Noroom = 18

-- §3: "a writer that takes the sequences and then the events, one after another"
pub data Item : Type 0 where
  sequence : List ℕ → Item
  event : Entry → Item

-- a writer of so many events and sequences; none before the first call
abbrev pub counts : ℕ → ℕ → Writer
counts e s = record { events = e; sequences = s }

abbrev pub new_writer : Writer
new_writer = counts 0 0

-- ---- the paper so far

abbrev pub length_for : Writer → ℕ
length_for w = length_of w.events w.sequences

abbrev pub entries_in : Writer → List ℕ → List Entry
entries_in w buffer = entries_from buffer 12 w.events

abbrev pub sequences_in : Writer → List ℕ → List (List ℕ)
sequences_in w buffer = sixteens_from buffer (12 + 20 * w.events) w.sequences

-- §3: "a paper of the writer's counts"
unfoldable pub has_counts : Writer → List ℕ → Bool
has_counts w p = paper_fits p && eqb (event_count p) w.events && eqb (sequence_count p) w.sequences

-- §3: "the buffer .. begin[s] with a paper of the writer's counts"
unfoldable pub begins : Writer → List ℕ → Bool
begins w buffer = has_counts w (take (length_for w) buffer)

-- ---- the refusals

-- §3: "badpaper 15 when, after the first call, the buffer does not begin with a paper of the writer's counts"
unfoldable pub is_broken : Writer → List ℕ → Bool
is_broken w buffer = not (is_zero w.events && is_zero w.sequences) && not (begins w buffer)

-- §3: "order 26 for a sequence after an event or an event naming a sequence not given"
abbrev pub is_misplaced : Writer → Item → Bool
is_misplaced w (sequence s) = not (is_zero w.events)
is_misplaced w (event e) = ltb w.sequences e.sequence

-- §3: "full 20 at event 1,001 or sequence 65"
abbrev pub is_full : Writer → Item → Bool
is_full w (sequence s) = leb 64 w.sequences
is_full w (event e) = leb 1000 w.events

-- ---- a call

-- the writer after an accepted call, or the refusal
abbrev pub Added : Type 0
Added = Result Writer Refusal

abbrev pub entries_with : List Entry → Item → List Entry
entries_with es (sequence s) = es
entries_with es (event e) = es ++ e ∷ []

abbrev pub sequences_with : List (List ℕ) → Item → List (List ℕ)
sequences_with ss (sequence s) = ss ++ s ∷ []
sequences_with ss (event e) = ss

-- the paper, and behind it what is in the buffer
abbrev pub in_front : List ℕ → List ℕ → List ℕ
in_front p buffer = p ++ drop (length p) buffer

-- §3: "lays out a complete paper in a lent buffer"; "noroom 18 when the paper so far would not fit"
unfoldable pub laid_out : List Entry → List (List ℕ) → List ℕ → Added × List ℕ
laid_out es ss buffer =
    cond (ltb (length buffer) (length (paper_bytes es ss)))
    (Err Noroom, buffer)
    (Ok (counts (length es) (length ss)), in_front (paper_bytes es ss) buffer)

-- §3: "Refusals, in this order, each leaving writer and buffer untouched": the answer, and the buffer after it
unfoldable pub added : Writer → List ℕ → Item → Added × List ℕ
added w buffer i =
    cond (is_broken w buffer) (Err Badpaper, buffer)
    (cond (is_misplaced w i) (Err Order, buffer)
    (cond (is_full w i) (Err Full, buffer)
    (laid_out (entries_with (entries_in w buffer) i) (sequences_with (sequences_in w buffer) i) buffer)))

-- ---- calls one after another, up to the first refusal

abbrev pub next : Added × List ℕ → Item → Added × List ℕ
next (Ok w, buffer) i = added w buffer i
next (Err r, buffer) i = (Err r, buffer)

abbrev pub added_all : Added × List ℕ → List Item → Added × List ℕ
added_all x [] = x
added_all x (i ∷ is) = added_all (next x i) is
