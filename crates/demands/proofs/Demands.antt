-- Demands 1 and 2 are met. Assumes nothing.
use Prim.Native.Nat.{ℕ, ◌+◌, ◌-◌, ◌*◌, ◌≤◌}
use native.Mathlib.Omega.{arith}
use mathlib.Core.Path.{◌≡◌, refl, sym, ap, ◌∙◌}
use mathlib.Core.List.{List, [], ◌∷◌, ◌++◌, map, map-append}
use lib.ListN.{length, take, drop, replicate}
use lib.Dec.{ltb}
use borrow.Author.Tests.{le-ltb}
use lib.Seq.{take-append_seam, drop-append_seam}
use Rattle.locks.proofs.Tests.{cases}
use Rattle.rules.specs.State.{laid, fresh}
use Rattle.rules.specs.Step.{step_of}
use Rattle.locks.specs.Cells.{WORDS}
use Rattle.rules.specs.Reply.{four_of}
use Rattle.turns.specs.Turn.{state_in, Holds}
use Rattle.rules.specs.declared.state.State.{State}
use Rattle.rules.specs.declared.state.Event.{Event}
use Rattle.rules.specs.declared.state.Answer.{Answer}
use Rattle.rules.specs.declared.state.Stepped.{Stepped}
use Rattle.rules.proofs.Walk.{answers-listed, refused-keeps}
use Rattle.papers.specs.Bytes.{joined}
use Rattle.papers.specs.Layout.{event_count}
use Rattle.papers.specs.Fields.{Read, paper_of, sheet_of}
use Rattle.papers.specs.Events.{events_of}
use Rattle.papers.specs.Answers.{answer_bytes, places_of}
use Rattle.papers.specs.declared.layout.Refusal.{Refusal}
use Rattle.papers.specs.declared.layout.Refusal.TheVariants.{Noroom}
use Rattle.std.specs.Prelude.{Ok, Err}
use Rattle.papers.proofs.Files.{paper-count, sheet-counts}
use Rattle.papers.proofs.Sheets.{made-fits, made-count}
use Rattle.marker.specs.Promises.{KeyListed, writes as key_writes, badpaper, blank, noroom}
use Rattle.rules.specs.Play.{answers_from, state_from}
use Rattle.rules.proofs.Plays.{answers-more, state-more}
use Rattle.marker.specs.Key.{key_places, key_of, Keyed, keyed_for, keyed}
use Rattle.marker.specs.Mark.{right_places, worth, marked}
use Rattle.marker.proofs.Places.{places_count, key-places}
use Rattle.marker.proofs.Promises.{perfect-exact, marks-listed, keys-listed, key-long, mark-refused}
use Rattle.model.proofs.fresh.Met as fresh-code
use Rattle.model.proofs.step.Met as step-code
use Rattle.turns.proofs.begin.Met as begin-code
use Rattle.turns.proofs.turn.Met as turn-code
use Rattle.model.proofs.answer_in.Met as answer-in-code
use Rattle.model.proofs.system.System.fresh.Met as system-fresh-code
use Rattle.model.proofs.system.System.of.Met as system-of-code
use Rattle.model.proofs.system.System.turn.Met as system-turn-code
use Rattle.model.proofs.system.System.state.Met as system-state-code
use Rattle.marker.proofs.key.Met as key-code
use Rattle.marker.proofs.mark.Met as mark_code
use Rattle.marker.proofs.perfect.Met as perfect-code
use Rattle.writer.proofs.add_sequence.Met as add-sequence-code
use Rattle.writer.proofs.add_event.Met as add-event-code
use Rattle.forms.proofs.items.Refusal.number.Met as number-of-code
use Rattle.brinefeather.proofs.brinefeather_add_sequence.Met as brinefeather-add-sequence-code
use Rattle.brinefeather.proofs.brinefeather_add_event.Met as brinefeather-add-event-code
use Rattle.brinefeather.proofs.brinefeather_key.Met as brinefeather-key-code
use Rattle.brinefeather.proofs.brinefeather_mark.Met as brinefeather-mark-code
use Rattle.demands.specs.Demands.{Code, StepGives, BeginGives, Calls, none, more, Turns, begun, turned, ByTheRules, Demand1, Demand2}

pub code : {M : Type 1} → Code M
code =
    record {
      fresh = fresh-code.met;
      step = step-code.met;
      begin = begin-code.met;
      turn = turn-code.met;
      answer-in = answer-in-code.met;
      system-fresh = system-fresh-code.met;
      system-of = system-of-code.met;
      system-turn = system-turn-code.met;
      system-state = system-state-code.met;
      key = key-code.met;
      mark = mark_code.met;
      perfect = perfect-code.met;
      brinefeather-key = brinefeather-key-code.met;
      brinefeather-mark = brinefeather-mark-code.met;
      add-sequence = add-sequence-code.met;
      add-event = add-event-code.met;
      number_of = number-of-code.met;
      brinefeather-add-sequence = brinefeather-add-sequence-code.met;
      brinefeather-add-event = brinefeather-add-event-code.met;
    }

-- ---- any events

every : (s : State) (before : List Event) (e : Event) (rest : List Event)
    → answers_from s (before ++ e ∷ rest) ≡ answers_from s before ++ (step_of (state_from s before) e).answer ∷ answers_from (state_from s (before ++ e ∷ [])) rest
every s [] e rest = refl
every s (d ∷ before) e rest = rw (every (step_of s d).state before e rest)

by-the-rules : (G : State → Event → Stepped → Type 0) → ((s : State) (e : Event) (r : Stepped) → G s e r → r ≡ step_of s e)
    → {s : State} → s ≡ laid fresh → {es : List Event} {given : List Answer} {t : State} → Calls G s es given t → ByTheRules es given t
by-the-rules G keeps f none = record { answers = refl; state = f }
by-the-rules G keeps f (more {es = es} {given = given} {t = t} c e r g) =
    let k = by-the-rules G keeps f c in
    let a : r ≡ step_of (state_from (laid fresh) es) e = keeps t e r g ∙ ap (λ (x : State). step_of x e) k.state in
    record {
      answers = rw (answers-more (laid fresh) es e, a, k.answers);
      state = rw (state-more (laid fresh) es e) (ap (λ (x : Stepped). x.state) a);
    }

-- what the arrays hold after some turns
record Held (m t : List ℕ) (es : List Event) (given : List (List ℕ)) : Type 0 where
  holds : Holds m t
  answers : given ≡ map four_of (answers_from (laid fresh) es)
  state : state_in m t ≡ state_from (laid fresh) es

held : {m : List ℕ} → BeginGives m → {es : List Event} {given : List (List ℕ)} {after rows : List ℕ} → Turns m (replicate WORDS 0) es given after rows → Held after rows es given
held b begun = record { holds = b.0; answers = refl; state = b.1 }
held b (turned {es = es} {given = given} c e answer after rows g) =
    let k = held b c in
    record {
      holds = g.holds;
      answers =
          rw (answers-more (laid fresh) es e, map-append four_of (answers_from (laid fresh) es) ((step_of (state_from (laid fresh) es) e).answer ∷ []), ← k.state, k.answers)
          (ap (λ (x : List ℕ). map four_of (answers_from (laid fresh) es) ++ x ∷ []) g.answer);
      state = g.state ∙ rw (state-more (laid fresh) es e, k.state);
    }

-- ---- keys

-- what a key comes to: nothing was written, or the whole key was
pub data Came (p buffer : List ℕ) : Keyed × List ℕ → Type 0 where
  refuses : (n : Refusal) → Came p buffer (Err n, buffer)
  writes : Came p buffer (Ok (6 + 16 * event_count p), key_of p ++ drop (6 + 16 * event_count p) buffer)

came : (p buffer : List ℕ) → Came p buffer (keyed p buffer)
unfolding keyed
came p buffer = go (paper_of p) refl
  where
    go : (x : Read) → paper_of p ≡ x → Came p buffer (keyed_for x (key_of p) buffer)
    go (Err n) e = refuses n
    go (Ok n) e =
        rw (paper-count p n e)
        (cases (ltb (length buffer) (6 + 16 * event_count p)) (λ l. rw l (refuses Noroom)) (λ l. rw l writes))

no_byte_lem : (p buffer : List ℕ) (n : Refusal) (after : List ℕ) {x : Keyed × List ℕ} → (Err n, after) ≡ x → Came p buffer x → after ≡ buffer
no_byte_lem p buffer n after e (refuses k) = ap (λ (x : Keyed × List ℕ). x.1) e
no_byte_lem p buffer n after e writes =
    let f : Err n ≡ Ok (6 + 16 * event_count p) = ap (λ (x : Keyed × List ℕ). x.0) e in
    let z : ◌≡◌ {A = ℕ} 0 1 = cc in
    absurd (omega arith)

-- the key, and the rest of the buffer
pub record Whole (p buffer : List ℕ) (n : ℕ) (after : List ℕ) : Type 0 where
  pub long : n ≡ 6 + 16 * event_count p
  pub is : after ≡ key_of p ++ drop n buffer

whole : (p buffer : List ℕ) (n : ℕ) (after : List ℕ) {x : Keyed × List ℕ} → (Ok n, after) ≡ x → Came p buffer x → Whole p buffer n after
whole p buffer n after e (refuses k) =
    let f : Ok n ≡ Err k = ap (λ (x : Keyed × List ℕ). x.0) e in
    let z : ◌≡◌ {A = ℕ} 0 1 = cc in
    absurd (omega arith)
whole p buffer n after e writes =
    let f : Ok n ≡ Ok (6 + 16 * event_count p) = ap (λ (x : Keyed × List ℕ). x.0) e in
    let l : n ≡ 6 + 16 * event_count p = cc in
    record { long = l; is = rw l (ap (λ (x : Keyed × List ℕ). x.1) e) }

module _ (p buffer : List ℕ) (n : ℕ) (after : List ℕ) (w : Whole p buffer n after) where
  size : length (key_of p) ≡ n
  size = key-long p ∙ sym w.long

  taken : take n after ≡ key_of p
  taken = rw (w.is, ← size) (take-append_seam (key_of p) (drop (length (key_of p)) buffer))

  dropped : drop n after ≡ drop n buffer
  dropped = rw (w.is, ← size) (drop-append_seam (key_of p) (drop (length (key_of p)) buffer))

  has-places : places_of (take n after) ≡ map answer_bytes (answers_from (laid fresh) (events_of p))
  unfolding key_places
  has-places = rw taken (key-places p)

-- ---- marks

sheet-no-mark : (p s : List ℕ) (k : ℕ) (n : Refusal) → paper_of p ≡ Ok k → sheet_of s ≡ Err n → marked p s ≡ Err n
unfolding marked
sheet-no-mark p s k n e f = rw (e, f)

no_key_lem : (p buffer : List ℕ) (n : Refusal) → paper_of p ≡ Err n → keyed p buffer ≡ (Err n, buffer)
unfolding keyed
no_key_lem p buffer n e = rw e

marked-is : (p s : List ℕ) (total answers : ℕ) → paper_of p ≡ Ok total → sheet_of s ≡ Ok answers
    → marked p s ≡ worth total (right_places (map answer_bytes (answers_from (laid fresh) (events_of p))) (places_of s)) (total - answers) (answers - total)
unfolding marked key_places
marked-is p s total answers e f = rw (e, f)

keyed-is : (p buffer : List ℕ) (n : ℕ) → paper_of p ≡ Ok n → 6 + 16 * n ≤ length buffer → (keyed p buffer).0 ≡ Ok (6 + 16 * n)
unfolding keyed
keyed-is p buffer n e h = rw (e, le-ltb (length buffer) (6 + 16 * n) h)

long-most : {room n : ℕ} {x : Keyed} → KeyListed room x → x ≡ Ok n → n ≤ 16006
long-most {n = n} (key_writes k a b c) e = let l : 6 + 16 * k ≡ n = cc in omega arith
long-most (badpaper offset l) e = let z : ◌≡◌ {A = ℕ} 0 1 = cc in absurd (omega arith)
long-most blank e = let z : ◌≡◌ {A = ℕ} 0 1 = cc in absurd (omega arith)
long-most noroom e = let z : ◌≡◌ {A = ℕ} 0 1 = cc in absurd (omega arith)

sheet-is : (p buffer : List ℕ) (n : ℕ) (after : List ℕ) → (Ok n, after) ≡ keyed p buffer → sheet_of (take n after) ≡ Ok (event_count p)
unfolding key_of
sheet-is p buffer n after g =
    let w = whole p buffer n after g (came p buffer) in
    let l = w.long in
    let b = long-most (keys-listed p buffer) (sym (ap (λ (x : Keyed × List ℕ). x.0) g)) in
    let r = joined (key_places p) in
    rw (taken p buffer n after w, sheet-counts (key_of p) (made-fits (event_count p) r (omega arith) (key-long p)), made-count (event_count p) r)

-- ---- the demands

pub demand-1 : Demand1
demand-1 =
    record {
      asked = λ s e. tt;
      given = λ s e. (step_of s e, refl);
      listed = λ s e r g. rw g (answers-listed s e);
      same = λ s e r g h. rw g (ap (λ (x : Stepped). x.state) (refused-keeps s e (rw g at h)).1);
      mark_asked = λ p s. tt;
      mark_given = λ p s. (marked p s, refl);
      marks_listed = λ p s r g. rw g (marks-listed p s);
      key_asked = λ p buffer. tt;
      key_given = λ p buffer. ((keyed p buffer).0, (keyed p buffer).1, refl);
      keys_listed = λ p buffer r after g. rw (ap (λ (x : Keyed × List ℕ). x.0) g) (keys-listed p buffer);
      no_byte = λ p buffer n after g. no_byte_lem p buffer n after g (came p buffer);
      no_key = λ p buffer n e r after g. ap (λ (x : Keyed × List ℕ). x.0) (g ∙ no_key_lem p buffer n e);
      paper_no_mark = λ p s n e r g. g ∙ mark-refused p s n e;
      sheet_no_mark = λ p s k n e f r g. g ∙ sheet-no-mark p s k n e f;
    }

pub demand-2 : Demand2
demand-2 =
    record {
      steps = λ s f es given t c. by-the-rules StepGives (λ u e r g. g) f c;
      begins = refl;
      turns = λ m b es given after rows c. let k = held b c in (k.answers, k.state);
      may = λ m b es given after rows c e. (held b c).holds;
      every = every;
      written = λ p buffer n e h r after g. ap (λ (x : Keyed × List ℕ). x.0) g ∙ keyed-is p buffer n e h;
      sheet = sheet-is;
      places = λ p buffer n after g. has-places p buffer n after (whole p buffer n after g (came p buffer));
      behind = λ p buffer n after g. let w = whole p buffer n after g (came p buffer) in (w.long, dropped p buffer n after w);
      marks = λ p s total answers e f r g. g ∙ marked-is p s total answers e f;
      by_places = places_count;
      full = λ p s r g. rw g (perfect-exact p s);
    }
