-- The steps of an event: what they keep, and where they lead. Assumes nothing.
use Prim.Native.Nat.{ℕ, ◌+◌, ◌≤◌}
use native.Mathlib.Omega.{arith}
use mathlib.Core.Path.{◌≡◌, refl, sym, ap, subst, ◌∙◌}
use mathlib.Core.Bool.{true, false, cond, ◌&&◌, true≢false}
use mathlib.Core.List.{List, [], ◌∷◌, ◌++◌, append-nil}
use lib.ListN.{length}
use lib.Dec.{eqb, leb, lit<, lit≤}
use borrow.Author.Tests.{eqb-true, eq-eqb, ne_eqb, leb-true}
use Rattle.locks.specs.Lists.{member, is_zero}
use Rattle.locks.specs.Rows.{waiting_of}
use Rattle.locks.specs.declared.rows.Row.{Row}
use Rattle.chains.specs.Chains.{RingFree}
use Rattle.locks.proofs.Tests.{cases, picked, and_split, or_off}
use Rattle.locks.proofs.Fewer.{fewer-refl}
use Rattle.chains.proofs.Rings.{fewer-free}
use Rattle.rules.specs.State.{Machine, view, for_lock, for_time, has, pids, no_process, new_process, with_alarm, lives, first_of, process_of, in_place, put, each, granted}
use Rattle.rules.specs.Outcome.{Outcome, refused, answered, when, either}
use Rattle.rules.specs.Signals.{arrives}
use Rattle.rules.specs.Clock.{slept, rings, alarms, ticked}
use Rattle.rules.specs.Sound.{ascend, sound}
use Rattle.rules.specs.Step.{outcome, settled, step_of}
use Rattle.rules.specs.Demands.{Reached, Step, whole, second, counts, delivers, leaves, after, alarm_steps, steps_of, During, begins, goes, Occurs, StepsLead}
use Rattle.rules.specs.declared.state.Process.{Process}
use Rattle.rules.specs.declared.state.State.{State}
use Rattle.rules.specs.declared.state.Event.{Event}
use Rattle.rules.proofs.Walk.{Leaves}
use Rattle.rules.proofs.Frame.{Ok, fit-ascend, below-first, ok-map, live-pid}
use Rattle.rules.proofs.Arrivals.{dead-process, ok-arrives, slept-pid, slept-sane, ignores-alarm, ok-alarm, no-alarm}
use Rattle.rules.proofs.Stays.{stays}
use Rattle.rules.proofs.Rings.{Free, less-put, less-arrives, free_stays}
use Rattle.rules.proofs.States.{view-laid, ok-view, sound-stays, ring-free-stays}
use Rattle.rules.proofs.Places.{first-slept, first-put, first-arrives}

-- ---- what occurs is sound, without a ring of waiters

pub record Fit (m : Machine) : Type 0 where
  pub ok : Ok m
  pub free : RingFree m.rows

-- what the machine before has, and whatever is answered
pub left-good : (P : Machine → Type 0) (m : Machine) (o : Outcome Machine) → P m → Leaves P o → P (leaves m o)
unfolding leaves
left-good P m (refused r) h g = h
left-good P m (answered k d3 a0 w) h g = g
left-good P m (when true r o) h g = h
left-good P m (when false r o) h g = left-good P m o h (g refl)
left-good P m (either true x y) h g = left-good P m x h (g.0 refl)
left-good P m (either false x y) h g = left-good P m y h (g.1 refl)

put-nobody : (q : Process) (ps : List Process) → member q.pid (pids ps) ≡ false → in_place q ps ≡ ps
unfolding in_place
put-nobody q [] h = refl
put-nobody q (p ∷ ps) h =
    let s = or_off (has q.pid p) (member q.pid (pids ps)) h in
    rw s.0 (ap (λ (l : List Process). p ∷ l) (put-nobody q ps s.1))

-- PID 0 is nobody's
put-none : (a : ℕ) (m : Machine) → Ok m → Ok (put (with_alarm a no_process) m)
unfolding put no_process new_process
put-none a m o =
    rw (put-nobody (with_alarm a no_process) m.procs (below-first 0 1 (pids m.procs) m.next (lit< tt) (fit-ascend (pids m.procs) m.next o.frame.fit))) o

step-fit : (t : Step) (m : Machine) → Fit m → Fit (after t m)
unfolding after each
step-fit (whole e) m f =
    record {
      ok = left-good Ok m (outcome e m) f.ok (stays e m f.ok);
      free = left-good Free m (outcome e m) f.free (free_stays e m f.free);
    }
step-fit second m f = record { ok = ok-map slept slept-pid m m.rows (fewer-refl m.rows) (slept-sane m.rows) f.ok; free = f.free }
step-fit (counts n) m f =
    record {
      ok = cases (lives m n) (λ l. ok-alarm n _ m l f.ok) (λ d. rw (dead-process m n d) (put-none _ m f.ok));
      free = fewer-free (less-put _ m) f.free;
    }
step-fit (delivers n) m f =
    record {
      ok = ok-arrives 5 n m (lit≤ tt) (λ (e : n ≡ 1). rw e (ignores-alarm m f.ok)) f.ok;
      free = fewer-free (less-arrives 5 n m) f.free;
    }

pub reached-sound : {s : State} → Reached s → sound s ≡ true
reached-sound Reached.start = sound-stays.first
reached-sound (Reached.next {s} r e) = sound-stays.next s e (reached-sound r)

reached-free : {s : State} → Reached s → RingFree (view s).rows
reached-free Reached.start = ring-free-stays.first
reached-free (Reached.next {s} r e) = ring-free-stays.next s e (reached-free r)

pub occurs-fit : {m : Machine} {ts : List Step} → Occurs m ts → Fit m
occurs-fit o = go o.course
  where
    go : {m : Machine} {ts : List Step} → During o.state o.event m ts → Fit m
    go begins = record { ok = ok-view o.state (reached-sound o.reached); free = reached-free o.reached }
    go (goes {m} {t} d) = step-fit t m (go d)

-- ---- alarms

pub slept-alarm : (p : Process) → (slept p).alarm ≡ p.alarm
unfolding slept
slept-alarm p =
    picked (λ (q : Process). q.alarm ≡ p.alarm) (eqb p.rest.sleep for_time)
    (λ _. picked (λ (q : Process). q.alarm ≡ p.alarm) (eqb p.rest.seconds 1) (λ _. refl) (λ _. refl)) (λ _. refl)

granted-alarm : (rows : List Row) (p : Process) → (granted rows p).alarm ≡ p.alarm
unfolding granted
granted-alarm rows p = picked (λ (q : Process). q.alarm ≡ p.alarm) (eqb p.rest.sleep for_lock && is_zero (length (waiting_of p.pid rows))) (λ _. refl) (λ _. refl)

-- n's alarm is as it was
abbrev Same : ℕ → Machine → Machine → Type 0
Same n m w = (process_of w n).alarm ≡ (process_of m n).alarm

put-alarm : (q : Process) (n : ℕ) (m : Machine) → (q.pid ≡ n → ⊥) → Same n m (put q m)
unfolding put process_of
put-alarm q n m d = first-put (λ p. p.alarm ≡ (process_of m n).alarm) q n m.procs (λ (e : q.pid ≡ n). absurd (d e)) refl

arrives-alarm : (s k n : ℕ) (m : Machine) → (k ≡ n → ⊥) → Same n m (arrives s k m)
arrives-alarm s k n m d =
    first-arrives (λ p. p.alarm ≡ (process_of m n).alarm) s k n m (λ rows p e. granted-alarm rows p ∙ e) (λ (e : k ≡ n). absurd (d e)) (λ _ (e : k ≡ n). absurd (d e)) refl

rings-alarm : (k n : ℕ) (m : Machine) → (k ≡ n → ⊥) → Same n m (rings (process_of m k) m)
unfolding rings
rings-alarm k n m d =
    cases (lives m k)
    (λ l.
    let p = process_of m k in
    let other : p.pid ≡ n → ⊥ = λ (e : p.pid ≡ n). d (sym (live-pid m k l) ∙ e) in
    picked (Same n m) (is_zero p.alarm) (λ _. refl)
    (λ _.
    picked (Same n m) (eqb p.alarm 1)
    (λ _. arrives-alarm 5 p.pid n (put (with_alarm 0 p) m) other ∙ put-alarm (with_alarm 0 p) n m other) (λ _. put-alarm _ n m other)))
    (λ l. rw (dead-process m k l, no-alarm m))

-- ---- the machine after some steps

abbrev pub passed : List Step → Machine → Machine
passed [] m = m
passed (t ∷ ts) m = passed ts (after t m)

passed-append : (us vs : List Step) (m : Machine) → passed (us ++ vs) m ≡ passed vs (passed us m)
passed-append [] vs m = refl
passed-append (t ∷ us) vs m = passed-append us vs (after t m)

-- who has an alarm lives
alarm-lives : (n : ℕ) (m : Machine) → is_zero (process_of m n).alarm ≡ false → (process_of m n).pid ≡ n
unfolding no_process new_process
alarm-lives n m h = cases (lives m n) (live-pid m n) (λ d. absurd (true≢false (rw (dead-process m n d) at h)))

-- the steps of one alarm
abbrev bell : ℕ → ℕ → List Step
bell n a = cond (is_zero a) [] (counts n ∷ cond (eqb a 1) (delivers n ∷ []) [])

passed-bell : (n a : ℕ) (m : Machine) → (process_of m n).alarm ≡ a → passed (bell n a) m ≡ rings (process_of m n) m
unfolding rings after
passed-bell n a m e =
    rw (← e)
    (cases (is_zero (process_of m n).alarm) (λ z. rw z)
    (λ z. cases (eqb (process_of m n).alarm 1) (λ o. rw (z, o, alarm-lives n m z, eqb-true (process_of m n).alarm 1 o)) (λ o. rw (z, o))))

-- alarms of PIDs from low on, as they were at first, each in its turn
passed-alarms : (low : ℕ) (ps : List Process) (next : ℕ) (m : Machine) → ascend low (pids ps) next ≡ true → ((n : ℕ) → low ≤ n → (process_of m n).alarm ≡ (first_of n ps).alarm)
    → passed (alarm_steps ps) m ≡ alarms (pids ps) m
unfolding alarm_steps alarms ascend first_of
passed-alarms low [] next m up same = refl
passed-alarms low (p ∷ ps) next m up same =
    let u = and_split (leb low p.pid) (ascend (p.pid + 1) (pids ps) next) up in
    let l = leb-true low p.pid u.0 in
    passed-append (bell p.pid p.alarm) (alarm_steps ps) m ∙ ap (passed (alarm_steps ps)) (passed-bell p.pid p.alarm m (rw (eq-eqb p.pid p.pid refl) at (same p.pid l)))
    ∙ passed-alarms (p.pid + 1) ps next (rings (process_of m p.pid) m) u.1
    (λ n k. let d : p.pid ≡ n → ⊥ = λ (e : p.pid ≡ n). omega arith in rings-alarm p.pid n m d ∙ (rw (ne_eqb p.pid n d) at (same n (omega arith))))

passed-tick : (m : Machine) → Ok m → passed (second ∷ alarm_steps m.procs) m ≡ ticked m
unfolding ticked after each process_of
passed-tick m o =
    passed-alarms 1 m.procs m.next (each slept m) (fit-ascend (pids m.procs) m.next o.frame.fit)
    (λ n _. rw (first-slept n m.procs) (slept-alarm (first_of n m.procs)))

leaves-tick : (e : Event) (m : Machine) → e.kind ≡ 2 → leaves m (outcome e m) ≡ ticked m
unfolding leaves outcome
leaves-tick e m k = rw k

passed-event : (e : Event) (m : Machine) → Ok m → passed (steps_of e m) m ≡ leaves m (outcome e m)
unfolding steps_of after
passed-event e m o = cases (eqb e.kind 2) (λ k. rw (k, leaves-tick e m (eqb-true e.kind 2 k)) (passed-tick m o)) (λ k. rw k)

settled-leaves : (s : State) (o : Outcome Machine) → view (settled s o).state ≡ leaves (view s) o
unfolding settled leaves
settled-leaves s (refused r) = refl
settled-leaves s (answered k d3 a0 m) = view-laid m
settled-leaves s (when true r o) = refl
settled-leaves s (when false r o) = settled-leaves s o
settled-leaves s (either true x y) = settled-leaves s x
settled-leaves s (either false x y) = settled-leaves s y

pub passed-all : (s : State) → Reached s → (e : Event) → passed (steps_of e (view s)) (view s) ≡ view (step_of s e).state
unfolding step_of settled
passed-all s r e =
    let h = reached-sound r in
    passed-event e (view s) (ok-view s h) ∙ sym (rw h (settled-leaves s (outcome e (view s))))

-- ---- the course of an event

-- the first of the steps to come are taken
passes : {s : State} {e : Event} {m : Machine} (us vs : List Step) → During s e m (us ++ vs) → During s e (passed us m) vs
passes [] vs d = d
passes {s = s} {e = e} {m = m} (t ∷ us) vs d = passes {s = s} {e = e} {m = after t m} us vs (goes d)

leads : (s : State) → Reached s → (e : Event) → During s e (view (step_of s e).state) []
leads s r e =
    subst (λ m. During s e m []) (passed-all s r e) (passes (steps_of e (view s)) [] (subst (λ ts. During s e (view s) ts) (sym (append-nil (steps_of e (view s)))) begins))

pub steps-lead : StepsLead
steps-lead = record { lead = leads; ascending = λ s r. fit-ascend (pids (view s).procs) (view s).next (ok-view s (reached-sound r)).frame.fit }
