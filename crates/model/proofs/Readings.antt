-- A state read out of the arrays: each process and each row from its numbers, which fit. Assumes nothing.
use Prim.Native.Nat.{ℕ, zero, suc, ◌+◌, ◌*◌, ◌≤◌, ◌<◌}
use native.Mathlib.Nat.{le_of_suc-le-suc, not-suc-le-zero, suc-mul}
use native.Mathlib.Omega.{arith}
use mathlib.Core.Path.{◌≡◌, refl, sym, ap, ◌∙◌, subst}
use mathlib.Core.Bool.{true, false, false≢true, and-eq-true_iff}
use mathlib.Core.List.{List, [], ◌∷◌}
use lib.Dec.{eqb, leb}
use lib.ListN.{length, get_or, drop}
use lib.Seq.{drop-drop, get_or-drop}
use borrow.Author.Tests.{eqb-true, leb-true, ltb-true}
use Rattle.locks.specs.Lists.{member, padded}
use Rattle.locks.specs.Rows.{no_row, laid_rows, sound_row}
use Rattle.locks.specs.declared.rows.Row.{Row}
use Rattle.locks.proofs.Lists.{all-at}
use Rattle.locks.proofs.Tests.{and_split, cases}
use Rattle.rules.specs.State.{Machine, no_process, laid, pids, process, view}
use Rattle.rules.specs.Outcome.{Kind, kind_of, done, now_asleep, caller_ended, Outcome, badstate, refusal, refused, answered, when, either}
use Rattle.rules.specs.declared.outcome.Refusal.{Refusal}
use Rattle.rules.specs.Sound.{ascend, sleep_fits, wake_fits, traps_fit, sound_process, sound}
use Rattle.rules.specs.Step.{outcome, settled, step_of, woken_mask, ended_mask}
use Rattle.rules.specs.declared.state.Answer.{Answer}
use Rattle.rules.specs.declared.state.Event.{Event}
use Rattle.rules.specs.declared.state.Ids.{Ids}
use Rattle.rules.specs.declared.state.Process.{Process}
use Rattle.rules.specs.declared.state.State.{State}
use Rattle.rules.specs.declared.state.Stepped.{Stepped}
use Rattle.rules.proofs.Numbers.{mask-small, number-small}
use Rattle.rules.proofs.Frame.{Ok, ascend-le, fit-ascend, fit_next}
use Rattle.rules.proofs.Sane.{sane}
use Rattle.locks.specs.Cells.{cell_at, four, CELL, HIGH, KIND, LOW, OWNER, row_in, rows_in}
use Rattle.model.specs.Fields.{Narrow, Slim, Small, number_at, process_at, row_at}
use Rattle.locks.specs.Pieces.{parted}
use Rattle.places.specs.Places.{ALARM, GROUP, LEFT, LIVE, Lays, NEXT, PENDING, PID, PLACE, PRIORITY, REACTIONS, SECONDS, SLEEP, TRAPS, USED, USER, WAKE, machine, process_in, procs_in, small_ids, whole}
use Rattle.places.specs.Settled.{answer_to}
use Rattle.rules.specs.Reply.{four_of}
use Rattle.turns.specs.Turn.{Holds, Turned, state_in}
use Rattle.turns.proofs.Border.{holds-machine, step_is}
use Rattle.places.proofs.Callings.{machine-ok, member-at}
use Rattle.places.proofs.Laying.{entire, lays_back, procs-live, procs-used}
use Rattle.places.proofs.Laying as laying
use Rattle.locks.proofs.Pieces.{parted-length}

pub parted-get : {A : Type 0} (g : List ℕ → A) (w n : ℕ) (m : List ℕ) (i : ℕ) (d : A) → i < n → get_or (parted g w n m) i d ≡ g (drop (i * w) m)
parted-get g w zero m i d l = absurd (not-suc-le-zero l)
parted-get g w (suc n) m zero d l = let e : 0 * w ≡ 0 = omega arith in rw e
parted-get g w (suc n) m (suc i) d l =
    let e : suc i * w ≡ w + i * w = rw (suc-mul i w) (omega arith) in
    parted-get g w n (drop w m) i d (le_of_suc-le-suc l) ∙ ap g (drop-drop (i * w) w m ∙ ap (λ (k : ℕ). drop k m) (sym e))

-- ---- one process, one row

module _ (m : List ℕ) (i : ℕ) where
  one : (k : ℕ) → get_or (drop (i * PLACE) m) k 0 ≡ number_at m i k
  one k = get_or-drop (i * PLACE) m k 0

  two : (a k : ℕ) → get_or (drop a (drop (i * PLACE) m)) k 0 ≡ number_at m i (a + k)
  two a k = get_or-drop a (drop (i * PLACE) m) k 0 ∙ one (a + k)

  process-is : process_in (drop (i * PLACE) m) ≡ process_at m i
  unfolding process_in
  process-is =
      λ j.
      process (one PID j) (record { effective = two USER 0 j; login = two USER 1 j; program = two USER 2 j })
      (record { effective = two GROUP 0 j; login = two GROUP 1 j; program = two GROUP 2 j }) (one PRIORITY j)
      (record {
        reactions = two REACTIONS 0 j ∷ two REACTIONS 1 j ∷ two REACTIONS 2 j ∷ two REACTIONS 3 j ∷ two REACTIONS 4 j ∷ two REACTIONS 5 j ∷ two REACTIONS 6 j ∷ [];
        pending = one PENDING j;
        traps = two TRAPS 0 j ∷ two TRAPS 1 j ∷ two TRAPS 2 j ∷ two TRAPS 3 j ∷ two TRAPS 4 j ∷ two TRAPS 5 j ∷ two TRAPS 6 j ∷ [];
      })
      (one ALARM j)
      (record { sleep = one SLEEP j; wake = one WAKE j; seconds = one SECONDS j; left = one LEFT j })

  pub process-here : i < get_or m LIVE 0 → process_at m i ≡ get_or (procs_in m) i no_process
  unfolding procs_in
  process-here l = sym (parted-get process_in PLACE (get_or m LIVE 0) m i no_process l ∙ process-is)

module _ (t : List ℕ) (i : ℕ) where
  number : (k : ℕ) → get_or (drop (i * CELL) t) k 0 ≡ get_or t (i * CELL + k) 0
  number k = get_or-drop (i * CELL) t k 0

  row_is : row_in (drop (i * CELL) t) ≡ row_at t i
  unfolding row_in
  row_is = rw (number OWNER, number KIND, number LOW, number HIGH)

  -- a cell is read as its row
  pub cell-row : row_in (four (cell_at t i)) ≡ row_at t i
  unfolding row_in
  cell-row = refl

  pub row_here : (used : ℕ) → i < used → row_at t i ≡ get_or (rows_in t used) i no_row
  unfolding rows_in
  row_here used l = sym (parted-get row_in CELL used t i no_row l ∙ row_is)

pub procs-count : (m : List ℕ) → length (procs_in m) ≡ get_or m LIVE 0
unfolding procs_in
procs-count m = parted-length process_in PLACE (get_or m LIVE 0) m

pub rows-count : (t : List ℕ) (used : ℕ) → length (rows_in t used) ≡ used
unfolding rows_in
rows-count t used = parted-length row_in CELL used t

-- the state of all of them
pub state-read : (m t : List ℕ) {ps : List Process} {rs : List Row} → ps ≡ padded 16 no_process (procs_in m) → rs ≡ padded 32 no_row (rows_in t (get_or m USED 0))
    → record { procs = ps; live = get_or m LIVE 0; table = record { rows = rs; used = get_or m USED 0 }; next = get_or m NEXT 0 } ≡ state_in m t
unfolding state_in machine laid laid_rows
state-read m t p r =
    λ i. record {
      procs = p i;
      live = sym (procs-count m) i;
      table = record { rows = r i; used = sym (rows-count t (get_or m USED 0)) i };
      next = get_or m NEXT 0;
    }

-- ---- their numbers fit

ascend-member : (low : ℕ) (ns : List ℕ) (next k : ℕ) → ascend low ns next ≡ true → member k ns ≡ true → k < next
unfolding ascend
ascend-member low [] next k up h = absurd (false≢true h)
ascend-member low (n ∷ ns) next k up h =
    let u = and_split (leb low n) (ascend (n + 1) ns next) up in
    cases (eqb n k) (λ e. let a : n ≡ k = eqb-true n k e in let b = ascend-le (n + 1) ns next u.1 in omega arith) (λ e. ascend-member (n + 1) ns next k u.1 (rw e at h))

slim : (i : Ids) → small_ids i ≡ true → Slim i
slim i h =
    let k = simp and-eq-true_iff at h in
    record { effective = ltb-true i.effective 65536 k.0.0; login = ltb-true i.login 65536 k.0.1; program = ltb-true i.program 65536 k.1 }

module _ {m t : List ℕ} (h : Holds m t) where
  ok : Ok (machine m t)
  ok = machine-ok h.laid.lays (holds-machine h)

  pid-small : (k : ℕ) → member k (pids (machine m t).procs) ≡ true → k < 65536
  pid-small k l =
      let a = ascend-member 1 (pids (machine m t).procs) (machine m t).next k (fit-ascend (pids (machine m t).procs) (machine m t).next ok.frame.fit) l in
      let b = (fit_next (pids (machine m t).procs) (machine m t).next ok.frame.fit).1 in
      omega arith

  narrow-here : (i : ℕ) → i < length (machine m t).procs → Narrow (get_or (machine m t).procs i no_process)
  unfolding sleep_fits wake_fits traps_fit
  narrow-here i l =
      let p = get_or (machine m t).procs i no_process in
      let s = sane {rows = (machine m t).rows} {p = p} (all-at (sound_process (machine m t).rows) (machine m t).procs no_process i l ok.procs) in
      let w = entire p (all-at whole (machine m t).procs no_process i l h.laid.lays.procs.whole) in
      let a = s.sleeps in
      let b = s.woke in
      let c = s.traps in
      let x = leb-true p.rest.sleep 3 (simp and-eq-true_iff at a).0 in
      let y = leb-true p.rest.wake 3 (simp and-eq-true_iff at b).0 in
      let z = ltb-true p.signals.pending 128 (simp and-eq-true_iff at c).0.0 in
      record { pid = pid-small p.pid (member-at (machine m t).procs i l); user = slim p.user w.user; group = slim p.group w.group; sleep = omega arith; wake = omega arith; pending = omega arith }

  pub narrow : (i : ℕ) → i < get_or m LIVE 0 → Narrow (process_at m i)
  unfolding machine
  narrow i l = subst Narrow (sym (process-here m i l)) (narrow-here i (let n = procs-live h.laid.lays.procs in omega arith))

  pub owner-narrow : (i : ℕ) → i < get_or m USED 0 → get_or t (i * CELL + OWNER) 0 < 65536
  unfolding machine sound_row
  owner-narrow i l =
      let r = get_or (rows_in t (get_or m USED 0)) i no_row in
      let e : get_or t (i * CELL + OWNER) 0 ≡ r.owner = ap (λ (q : Row). q.owner) (row_here t i (get_or m USED 0) l) in
      let n = procs-used h.laid.lays.procs in
      let k = all-at (sound_row (pids (procs_in m))) (rows_in t (get_or m USED 0)) no_row i (omega arith) ok.frame.rows-sound in
      let b = pid-small r.owner (simp and-eq-true_iff at k).0.1 in
      omega arith

-- ---- a step

masks-small : (s u : Machine) → length s.procs ≤ 16 → (woken_mask s u < 65536) × (ended_mask s u < 65536)
unfolding woken_mask ended_mask
masks-small s u b = (mask-small _ s.procs b, mask-small _ s.procs b)

kind-small : (k : Kind) → kind_of k < 256
kind-small done = omega arith
kind-small now_asleep = omega arith
kind-small caller_ended = omega arith

pub refusal-small : (r : Refusal) → Small (refusal r)
refusal-small r = record { kind = omega arith; number = number-small r; woken = omega arith; ended = omega arith }

-- an answer's fields fit
answer-small : (s : Machine) → length s.procs ≤ 16 → (o : Outcome Machine) → Small (answer_to s o)
answer-small s b (refused r) = refusal-small r
answer-small s b (answered k d3 a0 u) = let w = masks-small s u b in record { kind = kind-small k; number = omega arith; woken = w.0; ended = w.1 }
answer-small s b (when true r o) = refusal-small r
answer-small s b (when false r o) = answer-small s b o
answer-small s b (either true x y) = answer-small s b x
answer-small s b (either false x y) = answer-small s b y

-- what was laid out is held
pub held-state : {m t : List ℕ} (s : State) → sound s ≡ true → Lays m t (view s) → s ≡ laid (view s) → Holds m t × (state_in m t ≡ s)
unfolding state_in
held-state {m} {t} s h l e =
    let q : state_in m t ≡ s = ap laid (lays_back l) ∙ sym e in
    (record { laid = laying.laid l; sound = ap sound q ∙ h }, q)

pub stepped : {m t out v u : List ℕ} (s : State) (e : Event) {a : Answer} {x : State} → Holds m t × (state_in m t ≡ s) → Turned m t e out v u
    → ((b : Answer) → out ≡ four_of b → Small b → a ≡ b) → x ≡ state_in v u → record { answer = a; state = x } ≡ step_of s e
unfolding state_in
stepped {m} {t} s e {a} {x} h c f g =
    let b : (step_of (state_in m t) e).answer ≡ answer_to (machine m t) (outcome e (machine m t)) = ap (λ (r : Stepped). r.answer) (step_is (machine m t) e h.0.sound) in
    let k : Small (step_of (state_in m t) e).answer = subst Small (sym b) (answer-small (machine m t) h.0.laid.lays.procs.few (outcome e (machine m t))) in
    let p : a ≡ (step_of (state_in m t) e).answer = f (step_of (state_in m t) e).answer c.answer k in
    let q : x ≡ (step_of (state_in m t) e).state = g ∙ c.state in
    (λ i. record { answer = p i; state = q i }) ∙ ap (λ (y : State). step_of y e) h.1

pub step-refused : (s : State) (e : Event) {a : Answer} → sound s ≡ false → a ≡ refusal badstate → record { answer = a; state = s } ≡ step_of s e
unfolding step_of settled
step-refused s e h q = rw (h, q)
