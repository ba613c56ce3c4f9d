-- What is proved of a paper's bytes and of a writer, for every paper, writer, buffer and item. Assumes nothing.
use Rattle.std.specs.Prelude.{ℕ, ◌+◌, ◌≤◌, ◌<◌, ◌≡◌, Bool, true, false, List, [], ◌∷◌, ◌++◌, map, ◌↔◌, length, get_or, take, drop, leb, Ok, Err}
use Rattle.locks.specs.Lists.{all}
use Rattle.papers.specs.Bytes.{is_sixteen}
use Rattle.papers.specs.Layout.{event_count, sequence_count, paper_fits}
use Rattle.papers.specs.Fields.{paper_of}
use Rattle.papers.specs.Events.{events_of}
use Rattle.papers.specs.Entries.{entries_of, sequences_of}
use Rattle.papers.specs.declared.layout.Refusal.TheVariants as file
use Rattle.papers.specs.declared.entries.Entry.{Entry}
use Rattle.forms.specs.declared.items.Writer.{Writer}
use Rattle.forms.specs.declared.items.Refusal.{Refusal}
use Rattle.forms.specs.declared.items.Refusal.TheVariants.{Badpaper, Order, Full, Noroom}
use Rattle.forms.specs.Form.{paper_bytes, event_of}
use Rattle.forms.specs.Adding.{number_of, Item, sequence, event, counts, new_writer, length_for, entries_in, sequences_in, entries_with, sequences_with, begins, is_broken, is_misplaced, is_full, in_front, Added, added, added_all}

-- ---- a paper is its events and its sequences

-- what a paper can hold: 1,000 events and 64 sequences, these of 16 bytes; who names a sequence names one of them
pub record Holds (es : List Entry) (ss : List (List ℕ)) : Type 0 where
  pub events : length es ≤ 1000
  pub sequences : length ss ≤ 64
  pub long : all is_sixteen ss ≡ true
  pub named : all (λ e. leb e.sequence (length ss)) es ≡ true

-- §3: "Once it has an event, the reader reads back the same events and sequences"; before that it is sound in all else
pub record ReadBack (es : List Entry) (ss : List (List ℕ)) (p : List ℕ) : Type 0 where
  pub fits : paper_fits p ≡ true
  pub accepted : 1 ≤ length es → paper_of p ≡ Ok (length es)
  pub blank : length es ≡ 0 → paper_of p ≡ Err file.Blank
  pub entries : entries_of p ≡ es
  pub sequences : sequences_of p ≡ ss
  pub events : events_of p ≡ map (event_of ss) es

abbrev pub ReadsBack : Type 0
ReadsBack = (es : List Entry) (ss : List (List ℕ)) → Holds es ss → ReadBack es ss (paper_bytes es ss)

-- different events or sequences give different bytes
abbrev pub FormsDiffer : Type 0
FormsDiffer =
    (es es' : List Entry) (ss ss' : List (List ℕ)) → Holds es ss → Holds es' ss' → paper_bytes es ss ≡ paper_bytes es' ss' → (es ≡ es') × (ss ≡ ss')

-- every element is a byte, as in any buffer of the code
abbrev pub Bytes : List ℕ → Type 0
Bytes file = (i : ℕ) → get_or file i 0 < 256

-- a paper has one form: its events and sequences give its bytes
abbrev pub OneForm : Type 0
OneForm = (p : List ℕ) → Bytes p → paper_fits p ≡ true → paper_bytes (entries_of p) (sequences_of p) ≡ p

-- §3: "begin with a paper of the writer's counts": with the bytes of so many events and sequences, and anything behind them
pub record BeginsWith : Type 0 where
  pub made : (es : List Entry) (ss : List (List ℕ)) (r : List ℕ) → Holds es ss → begins (counts (length es) (length ss)) (paper_bytes es ss ++ r) ≡ true
  pub only : (w : Writer) (b : List ℕ) → Bytes b → begins w b ≡ true
      → Holds (entries_in w b) (sequences_in w b) × (b ≡ paper_bytes (entries_in w b) (sequences_in w b) ++ drop (length_for w) b)

-- ---- one call

-- a sequence has 16 bytes, as in the code
abbrev pub item_long : Item → Bool
item_long (sequence s) = is_sixteen s
item_long (event e) = true

-- one event or one sequence more
abbrev pub grown : Writer → Item → Writer
grown w (sequence s) = counts w.events (w.sequences + 1)
grown w (event e) = counts (w.events + 1) w.sequences

-- §3: "Each accepted call leaves such a paper": of the new writer's counts, with the events and sequences before the call and the new one, in front of the rest of the buffer, which is as it was
pub record Left (w : Writer) (b : List ℕ) (i : Item) (w' : Writer) (b' : List ℕ) : Type 0 where
  pub writer : w' ≡ grown w i
  pub events : event_count (take (length_for w') b') ≡ w'.events
  pub sequences : sequence_count (take (length_for w') b') ≡ w'.sequences
  pub paper : ReadBack (entries_with (entries_in w b) i) (sequences_with (sequences_in w b) i) (take (length_for w') b')
  pub rest : drop (length_for w') b' ≡ drop (length_for w') b
  pub long : length b' ≡ length b
  -- and the next call finds these events and sequences in the buffer
  pub entries-then : entries_in w' b' ≡ entries_with (entries_in w b) i
  pub sequences-then : sequences_in w' b' ≡ sequences_with (sequences_in w b) i

abbrev pub EachLeaves : Type 0
EachLeaves = (w w' : Writer) (b b' : List ℕ) (i : Item) → item_long i ≡ true → added w b i ≡ (Ok w', b') → Left w b i w' b'

-- §3: "each leaving writer and buffer untouched": who is refused has the buffer as it was, and no writer is answered
abbrev pub RefusedLeaves : Type 0
RefusedLeaves = (w : Writer) (b b' : List ℕ) (i : Item) (r : Refusal) → added w b i ≡ (Err r, b') → b' ≡ b

-- there is an answer to every call, of these five
pub data Listed : Added → Type 0 where
  taken : (w : Writer) → w.events ≤ 1000 → w.sequences ≤ 64 → 1 ≤ w.events + w.sequences → Listed (Ok w)
  badpaper : Listed (Err Badpaper)
  order : Listed (Err Order)
  full : Listed (Err Full)
  noroom : Listed (Err Noroom)

abbrev pub AllListed : Type 0
AllListed = (w : Writer) (b : List ℕ) (i : Item) → Listed (added w b i).0

-- §3: "Refusals, in this order": each is answered exactly when its reason holds and none before it does
pub record InOrder : Type 0 where
  pub badpaper : (w : Writer) (b : List ℕ) (i : Item) → ((added w b i).0 ≡ Err Badpaper) ↔ (is_broken w b ≡ true)
  pub order : (w : Writer) (b : List ℕ) (i : Item) → ((added w b i).0 ≡ Err Order) ↔ ((is_broken w b ≡ false) × (is_misplaced w i ≡ true))
  pub full : (w : Writer) (b : List ℕ) (i : Item) → ((added w b i).0 ≡ Err Full) ↔ ((is_broken w b ≡ false) × (is_misplaced w i ≡ false) × (is_full w i ≡ true))
  pub noroom : (w : Writer) (b : List ℕ) (i : Item) → item_long i ≡ true
      → ((added w b i).0 ≡ Err Noroom) ↔ ((is_broken w b ≡ false) × (is_misplaced w i ≡ false) × (is_full w i ≡ false) × (length b < length_for (grown w i)))

-- what each call gives where a paper of the writer's counts stands, with r behind it: §3: "full 20 at event 1,001 or sequence 65", "noroom 18 when the paper so far would not fit"
module _ (es : List Entry) (ss : List (List ℕ)) (r : List ℕ) where
  abbrev gives : Item → Added × List ℕ
  gives i = added (counts (length es) (length ss)) (paper_bytes es ss ++ r) i

  abbrev refuses : Refusal → Added × List ℕ
  refuses x = (Err x, paper_bytes es ss ++ r)

  pub record OnAPaper : Type 0 where
    pub misnamed : (e : Entry) → length ss < e.sequence → gives (event e) ≡ refuses Order
    pub event-1001 : (e : Entry) → e.sequence ≤ length ss → length es ≡ 1000 → gives (event e) ≡ refuses Full
    pub event-short : (e : Entry) → e.sequence ≤ length ss → length es < 1000 → length r < 20 → gives (event e) ≡ refuses Noroom
    pub event-more : (e : Entry) → e.sequence ≤ length ss → length es < 1000 → 20 ≤ length r
        → gives (event e) ≡ (Ok (counts (length es + 1) (length ss)), paper_bytes (es ++ e ∷ []) ss ++ drop 20 r)
    pub late : (s : List ℕ) → 1 ≤ length es → gives (sequence s) ≡ refuses Order
    pub sequence-65 : (s : List ℕ) → length es ≡ 0 → length ss ≡ 64 → gives (sequence s) ≡ refuses Full
    pub sequence-short : (s : List ℕ) → is_sixteen s ≡ true → length es ≡ 0 → length ss < 64 → length r < 16 → gives (sequence s) ≡ refuses Noroom
    pub sequence-more : (s : List ℕ) → is_sixteen s ≡ true → length es ≡ 0 → length ss < 64 → 16 ≤ length r
        → gives (sequence s) ≡ (Ok (counts (length es) (length ss + 1)), paper_bytes es (ss ++ s ∷ []) ++ drop 16 r)

abbrev pub OnPapers : Type 0
OnPapers = (es : List Entry) (ss : List (List ℕ)) (r : List ℕ) → Holds es ss → OnAPaper es ss r

-- the numbers of the request
pub record WriterRefusalNumbers : Type 0 where
  pub badpaper : number_of Badpaper ≡ 15
  pub order : number_of Order ≡ 26
  pub full : number_of Full ≡ 20
  pub noroom : number_of Noroom ≡ 18

-- ---- calls one after another

-- §3: "takes the sequences and then the events, one after another"
abbrev pub items : List Entry → List (List ℕ) → List Item
items es ss = map sequence ss ++ map event es

-- what a paper can hold is written, from a new writer into any buffer with room, and is its bytes in front of the rest
abbrev pub WritesAll : Type 0
WritesAll =
    (es : List Entry) (ss : List (List ℕ)) (b : List ℕ) → Holds es ss → 1 ≤ length es + length ss → length (paper_bytes es ss) ≤ length b
    → added_all (Ok new_writer, b) (items es ss) ≡ (Ok (counts (length es) (length ss)), in_front (paper_bytes es ss) b)

-- §3: "every accepted paper, read and written again, gives its own bytes"
abbrev pub WrittenAgain : Type 0
WrittenAgain =
    (p b : List ℕ) (n : ℕ) → Bytes p → paper_of p ≡ Ok n → length p ≤ length b
    → added_all (Ok new_writer, b) (items (entries_of p) (sequences_of p)) ≡ (Ok (counts (event_count p) (sequence_count p)), in_front p b)
