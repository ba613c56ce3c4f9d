-- Demands 1 and 2, of the code; demand 3 is in crate rules. In this file quotation marks stand around the demands' own words. Assumes nothing.
use Rattle.std.specs.Prelude.{ℕ, ◌+◌, ◌-◌, ◌*◌, ◌≤◌, ◌≡◌, true, ◌↔◌, List, [], ◌∷◌, ◌++◌, map, length, take, drop, replicate, Ok, Err}
use Rattle.std.specs.Borrow.{Bor, MutBor}
use Rattle.rules.specs.State.{laid, fresh}
use Rattle.rules.specs.Step.{step_of}
use Rattle.rules.specs.Reply.{four_of}
use Rattle.rules.specs.Promises.{Listed}
use Rattle.rules.specs.declared.state.State.{State}
use Rattle.rules.specs.declared.state.Event.{Event}
use Rattle.rules.specs.declared.state.Answer.{Answer}
use Rattle.rules.specs.declared.state.Stepped.{Stepped}
use Rattle.locks.specs.Cells.{WORDS}
use Rattle.places.specs.Places.{NUMBERS}
use Rattle.places.specs.declared.arrays.Arrays.{Arrays}
use Rattle.turns.specs.Turn.{state_in}
use Rattle.papers.specs.Layout.{event_count}
use Rattle.papers.specs.Fields.{paper_of, sheet_of}
use Rattle.papers.specs.Events.{events_of}
use Rattle.papers.specs.Answers.{answer_bytes, places_of}
use Rattle.papers.specs.declared.layout.Refusal.{Refusal}
use Rattle.rules.specs.Play.{answers_from, state_from}
use Rattle.marker.specs.Mark.{Marked, worth, right_places, is_perfect}
use Rattle.marker.specs.Promises.{MarkListed, KeyListed, PlacesCount, AllRight}
use Rattle.marker.specs.Key.{Keyed}
use Rattle.model.proofs.fresh.Statement as fresh-theorem
use Rattle.model.proofs.fresh.Reads as fresh-promise
use Rattle.model.proofs.step.Statement as step-theorem
use Rattle.model.proofs.step.Reads as step-promise
use Rattle.turns.proofs.begin.Statement as begin-theorem
use Rattle.turns.proofs.begin.Reads as begin-promise
use Rattle.turns.proofs.turn.Statement as turn-theorem
use Rattle.turns.proofs.turn.Reads as turn-promise
use Rattle.model.proofs.answer_in.Statement as answer-in-theorem
use Rattle.model.proofs.system.System.fresh.Statement as system-fresh-theorem
use Rattle.model.proofs.system.System.of.Statement as system-of-theorem
use Rattle.model.proofs.system.System.turn.Statement as system-turn-theorem
use Rattle.model.proofs.system.System.state.Statement as system-state-theorem
use Rattle.marker.proofs.key.Statement as key-theorem
use Rattle.marker.proofs.key.Reads as key-promise
use Rattle.marker.proofs.mark.Statement as mark-theorem
use Rattle.marker.proofs.mark.Reads as mark-promise
use Rattle.marker.proofs.perfect.Statement as perfect-theorem
use Rattle.writer.proofs.add_sequence.Statement as add-sequence-theorem
use Rattle.writer.proofs.add_event.Statement as add-event-theorem
use Rattle.forms.proofs.items.Refusal.number.Statement as number-of-theorem
use Rattle.brinefeather.proofs.brinefeather_add_sequence.Statement as brinefeather-add-sequence-theorem
use Rattle.brinefeather.proofs.brinefeather_add_event.Statement as brinefeather-add-event-theorem
use Rattle.brinefeather.proofs.brinefeather_key.Statement as brinefeather-key-theorem
use Rattle.brinefeather.proofs.brinefeather_mark.Statement as brinefeather-mark-theorem

-- ---- the code

-- Each public routine of model, marker, writer and brinefeather, and the number of a writer's refusal, keeps its promise: `statement` is what the toolchain makes of the routine and of the promise that stands above it in crates/*/src.
pub record Code (M : Type 1) : Type 2 where
  pub fresh : fresh-theorem.statement M
  pub step : step-theorem.statement M
  pub begin : begin-theorem.statement M
  pub turn : turn-theorem.statement M
  pub answer-in : answer-in-theorem.statement M
  pub system-fresh : system-fresh-theorem.statement M
  pub system-of : system-of-theorem.statement M
  pub system-turn : system-turn-theorem.statement M
  pub system-state : system-state-theorem.statement M
  pub key : key-theorem.statement M
  pub mark : mark-theorem.statement M
  pub perfect : perfect-theorem.statement M
  pub brinefeather-key : brinefeather-key-theorem.statement M
  pub brinefeather-mark : brinefeather-mark-theorem.statement M
  pub add-sequence : add-sequence-theorem.statement M
  pub add-event : add-event-theorem.statement M
  pub number_of : number-of-theorem.statement M
  pub brinefeather-add-sequence : brinefeather-add-sequence-theorem.statement M
  pub brinefeather-add-event : brinefeather-add-event-theorem.statement M

-- What the promises say of a call, as any caller reads them. `fresh` gives s. `step` asks for this of the state s and the event e, and gives r for them.
abbrev pub FreshGives : State → Type 0
FreshGives s = fresh-promise.Post tt tt s tt

abbrev pub StepAsks : State → Event → Type 0
StepAsks s e = step-promise.Pre tt (s, (e, tt))

abbrev pub StepGives : State → Event → Stepped → Type 0
StepGives s e r = step-promise.Post tt (s, (e, tt)) r (s, (e, tt))

-- bytes or numbers, lent from one place, to be read or to be changed: the promises read these alone
abbrev lent : List ℕ → Bor (List ℕ)
lent x = record { ref_ptr = (0, 0); now = x }

abbrev changed : {A : Type 0} → A → MutBor A
changed x = record { ref_ptr = (0, 0); ghost_name = 0; now = x }

-- the two arrays as one value
abbrev arrays : List ℕ → List ℕ → Arrays
arrays m t = record { numbers = m; cells = t }

-- `begin` asks for this of an array of zeros, and gives m
abbrev pub BeginAsks : Type 0
BeginAsks = begin-promise.Pre (replicate NUMBERS 0, tt) (changed (replicate NUMBERS 0), tt)

abbrev pub BeginGives : List ℕ → Type 0
BeginGives m = begin-promise.Post (replicate NUMBERS 0, tt) (changed (replicate NUMBERS 0), tt) tt (changed m, tt)

-- `turn` asks for this of the arrays m and t and the event e, and gives the answer and the arrays after it
abbrev pub TurnAsks : List ℕ → List ℕ → Event → Type 0
TurnAsks m t e = turn-promise.Pre (m, tt) (changed (arrays m t), (e, tt))

abbrev pub TurnGives : List ℕ → List ℕ → Event → List ℕ → List ℕ → List ℕ → Type 0
TurnGives m t e answer after rows = turn-promise.Post (m, tt) (changed (arrays m t), (e, tt)) answer (changed (arrays after rows), (e, tt))

-- `key` asks for this of the paper p and the buffer, and gives r, with `after` in the buffer then
abbrev pub KeyAsks : List ℕ → List ℕ → Type 0
KeyAsks p buffer = key-promise.Pre (p, (buffer, tt)) (lent p, (changed buffer, tt))

abbrev pub KeyGives : List ℕ → List ℕ → Keyed → List ℕ → Type 0
KeyGives p buffer r after = key-promise.Post (p, (buffer, tt)) (lent p, (changed buffer, tt)) r (lent p, (changed after, tt))

-- `mark` asks for this of the paper p and the sheet s, and gives r
abbrev pub MarkAsks : List ℕ → List ℕ → Type 0
MarkAsks p s = mark-promise.Pre (p, (s, tt)) (lent p, (lent s, tt))

abbrev pub MarkGives : List ℕ → List ℕ → Marked → Type 0
MarkGives p s r = mark-promise.Post (p, (s, tt)) (lent p, (lent s, tt)) r (lent p, (lent s, tt))

-- ---- demand 1

pub record Demand1 : Type 0 where
  -- "every event and state, gets an answer from the rules' own list": `step` may be asked, there is an answer, and whatever is given is listed
  pub asked : (s : State) (e : Event) → StepAsks s e
  pub given : (s : State) (e : Event) → (r : Stepped) × StepGives s e r
  pub listed : (s : State) (e : Event) (r : Stepped) → StepGives s e r → Listed r.answer
  -- "A refused event hands back the same state"
  pub same : (s : State) (e : Event) (r : Stepped) → StepGives s e r → r.answer.kind ≡ 3 → r.state ≡ s
  -- "Every byte string offered as paper or sheet .. gets an answer from the rules' own list"
  pub mark_asked : (p s : List ℕ) → MarkAsks p s
  pub mark_given : (p s : List ℕ) → (r : Marked) × MarkGives p s r
  pub marks_listed : (p s : List ℕ) (r : Marked) → MarkGives p s r → MarkListed r
  pub key_asked : (p buffer : List ℕ) → KeyAsks p buffer
  pub key_given : (p buffer : List ℕ) → (r : Keyed) × (after : List ℕ) × KeyGives p buffer r after
  pub keys_listed : (p buffer : List ℕ) (r : Keyed) (after : List ℕ) → KeyGives p buffer r after → KeyListed (length buffer) r
  -- "a refused paper or sheet writes no byte of the key and yields no mark"
  pub no_byte : (p buffer : List ℕ) (n : Refusal) (after : List ℕ) → KeyGives p buffer (Err n) after → after ≡ buffer
  pub no_key : (p buffer : List ℕ) (n : Refusal) → paper_of p ≡ Err n → (r : Keyed) (after : List ℕ) → KeyGives p buffer r after → r ≡ Err n
  pub paper_no_mark : (p s : List ℕ) (n : Refusal) → paper_of p ≡ Err n → (r : Marked) → MarkGives p s r → r ≡ Err n
  pub sheet_no_mark : (p s : List ℕ) (k : ℕ) (n : Refusal) → paper_of p ≡ Ok k → sheet_of s ≡ Err n → (r : Marked) → MarkGives p s r → r ≡ Err n

-- ---- demand 2

-- calls of a routine one after the other, each with the state that the last one gave: the events, the answers given, the state then
pub data Calls (Gives : State → Event → Stepped → Type 0) (s : State) : List Event → List Answer → State → Type 0 where
  none : Calls Gives s [] [] s
  more : {es : List Event} {given : List Answer} {t : State} → Calls Gives s es given t → (e : Event) (r : Stepped) → Gives t e r
      → Calls Gives s (es ++ e ∷ []) (given ++ r.answer ∷ []) r.state

-- turns one after the other, each on the arrays that the last one left: the events, the answers given, the arrays then
pub data Turns (m t : List ℕ) : List Event → List (List ℕ) → List ℕ → List ℕ → Type 0 where
  begun : Turns m t [] [] m t
  turned : {es : List Event} {given : List (List ℕ)} {u v : List ℕ} → Turns m t es given u v → (e : Event) (answer after rows : List ℕ)
      → TurnGives u v e answer after rows → Turns m t (es ++ e ∷ []) (given ++ answer ∷ []) after rows

-- the answers, and the state, of the rules
pub record ByTheRules (es : List Event) (given : List Answer) (s : State) : Type 0 where
  pub answers : given ≡ answers_from (laid fresh) es
  pub state : s ≡ state_from (laid fresh) es

pub record Demand2 : Type 0 where
  -- "From the fresh state, through any events, each event gives exactly the answer and new state of the rules."
  pub steps : (s : State) → FreshGives s → (es : List Event) (given : List Answer) (t : State) → Calls StepGives s es given t → ByTheRules es given t
  -- the same of `turn`: the arrays hold the state of the rules, and the answers are theirs, as four numbers
  pub begins : BeginAsks
  pub turns : (m : List ℕ) → BeginGives m → (es : List Event) (given : List (List ℕ)) (after rows : List ℕ) → Turns m (replicate WORDS 0) es given after rows
      → (given ≡ map four_of (answers_from (laid fresh) es)) × (state_in after rows ≡ state_from (laid fresh) es)
  -- `turn` may be called at each of them
  pub may : (m : List ℕ) → BeginGives m → (es : List Event) (given : List (List ℕ)) (after rows : List ℕ) → Turns m (replicate WORDS 0) es given after rows
      → (e : Event) → TurnAsks after rows e
  -- the answers of the rules, at every event: the one to that event in the state that those before it left
  pub every : (s : State) (before : List Event) (e : Event) (rest : List Event)
      → answers_from s (before ++ e ∷ rest) ≡ answers_from s before ++ (step_of (state_from s before) e).answer ∷ answers_from (state_from s (before ++ e ∷ [])) rest
  -- the key of a paper that is not refused is written, if there is room
  pub written : (p buffer : List ℕ) (n : ℕ) → paper_of p ≡ Ok n → 6 + 16 * n ≤ length buffer → (r : Keyed) (after : List ℕ) → KeyGives p buffer r after
      → r ≡ Ok (6 + 16 * n)
  -- it is a sheet with one answer per event, and has those answers, place by place; what lay behind it in the buffer lies there still
  pub sheet : (p buffer : List ℕ) (n : ℕ) (after : List ℕ) → KeyGives p buffer (Ok n) after → sheet_of (take n after) ≡ Ok (event_count p)
  pub places : (p buffer : List ℕ) (n : ℕ) (after : List ℕ) → KeyGives p buffer (Ok n) after
      → places_of (take n after) ≡ map answer_bytes (answers_from (laid fresh) (events_of p))
  pub behind : (p buffer : List ℕ) (n : ℕ) (after : List ℕ) → KeyGives p buffer (Ok n) after → (n ≡ 6 + 16 * event_count p) × (drop n after ≡ drop n buffer)
  -- "The mark counts the places where sheet and key are equal.": a paper and a sheet that are not refused have this mark; each place counts by itself, one where the 16 bytes are equal and none where they are not
  pub marks : (p s : List ℕ) (total answers : ℕ) → paper_of p ≡ Ok total → sheet_of s ≡ Ok answers → (r : Marked) → MarkGives p s r
      → r ≡ worth total (right_places (map answer_bytes (answers_from (laid fresh) (events_of p))) (places_of s)) (total - answers) (answers - total)
  pub by_places : PlacesCount
  -- "Full marks mean every event of a paper with at least one event was answered rightly, with no answer over."
  pub full : (p s : List ℕ) (r : Marked) → MarkGives p s r → (is_perfect r ≡ true) ↔ AllRight p s
