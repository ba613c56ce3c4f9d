-- A grant is told by the event's answer. Assumes nothing.
use Prim.Native.Nat.{ℕ, zero, suc, ◌+◌, ◌*◌, ◌/◌, ◌%◌, ◌^◌, ◌<◌}
use native.Mathlib.Nat.{div-one, div-div-eq-div-mul, pow-succ', le_of_suc-le-suc, not-suc-le-zero}
use native.Mathlib.Omega.{arith}
use mathlib.Core.Path.{◌≡◌, refl, sym, ◌∙◌}
use mathlib.Core.Bool.{Bool, true, false, cond, not, ◌&&◌, true≢false, false≢true}
use mathlib.Core.List.{List, [], ◌∷◌}
use lib.ListN.{length, length-map, get_or, get_or-map}
use lib.Dec.{eqb, leb}
use borrow.Author.Tests.{eqb-true, eq-eqb, ne_eqb, eqb-false}
use Rattle.locks.specs.Lists.{all, mask, member, bit, is_zero}
use Rattle.locks.specs.Rows.{waiting_of}
use Rattle.locks.specs.declared.rows.Row.{Row}
use Rattle.locks.proofs.Tests.{cases, picked, off, and_split}
use Rattle.locks.proofs.Lists.{any_some, some-any}
use Rattle.rules.specs.State.{Machine, view, for_lock, for_time, pids, no_process, new_process, sleeps, with_alarm, lives, first_of, process_of, put, each, granted}
use Rattle.rules.specs.Outcome.{badstate, Outcome, refused, answered, when, either}
use Rattle.rules.specs.Clock.{slept}
use Rattle.rules.specs.Sound.{ascend, sound}
use Rattle.rules.specs.Step.{outcome, woken_mask, settled, step_of}
use Rattle.rules.specs.Demands.{Step, whole, second, counts, delivers, after, alarm_steps, steps_of, During, begins, goes, Occurs, Sleeper, Granted, ShowsWoken}
use Rattle.rules.specs.declared.state.Process.{Process}
use Rattle.rules.specs.declared.state.State.{State}
use Rattle.rules.specs.declared.state.Event.{Event}
use Rattle.rules.proofs.Frame.{fit-ascend, below-first, live-pid}
use Rattle.rules.proofs.Arrivals.{trapped-awake, dead-process}
use Rattle.rules.proofs.States.{view-laid, ok-view}
use Rattle.rules.proofs.Courses.{reached-sound, passed, passed-all}
use Rattle.rules.proofs.Places.{first-slept, first-put, first-arrives}
use Rattle.rules.proofs.Steps.{NoTick}

-- ---- nobody falls asleep in a tick

-- whoever sleeps after slept before
abbrev Calm : Machine → Machine → Type 0
Calm m w = (n : ℕ) → sleeps (process_of w n) ≡ true → sleeps (process_of m n) ≡ true

none-sleeps : sleeps no_process ≡ true → ⊥
unfolding no_process new_process
none-sleeps h = false≢true h

slept-sleeps : (p : Process) → sleeps (slept p) ≡ true → sleeps p ≡ true
unfolding slept
slept-sleeps p =
    picked (λ (q : Process). sleeps q ≡ true → sleeps p ≡ true) (eqb p.rest.sleep for_time) (λ e _. rw (eqb-true p.rest.sleep for_time e)) (λ _ h. h)

granted-sleeps : (rows : List Row) (p : Process) → sleeps (granted rows p) ≡ true → sleeps p ≡ true
unfolding granted
granted-sleeps rows p =
    picked (λ (q : Process). sleeps q ≡ true → sleeps p ≡ true) (eqb p.rest.sleep for_lock && is_zero (length (waiting_of p.pid rows)))
    (λ _ h. absurd (false≢true h)) (λ _ h. h)

-- a step of a tick
abbrev brief : Step → Bool
brief (whole e) = false
brief second = true
brief (counts n) = true
brief (delivers n) = true

calm-step : (t : Step) (m : Machine) → brief t ≡ true → Calm m (after t m)
unfolding after each put process_of
calm-step (whole e) m b n h = absurd (false≢true b)
calm-step second m b n h = slept-sleeps (first_of n m.procs) (rw first-slept at h)
calm-step (counts k) m b n h =
    let p = process_of m k in
    first-put (λ q. sleeps q ≡ true → sleeps (process_of m n) ≡ true) (with_alarm _ p) n m.procs
    (λ (e : p.pid ≡ n) a. cases (lives m k) (λ l. rw (← e, live-pid m k l) a) (λ d. absurd (none-sleeps (rw (dead-process m k d) at a)))) (λ a. a) h
calm-step (delivers k) m b n h =
    first-arrives (λ q. sleeps q ≡ true → sleeps (process_of m n) ≡ true) 5 k n m (λ rows p f a. f (granted-sleeps rows p a)) (λ _ a. absurd (none-sleeps a))
    (λ r _ a. absurd (false≢true (rw (trapped-awake 5 r (process_of m k)) at a))) (λ a. a) h

calm-passed : (ts : List Step) (m : Machine) → all brief ts ≡ true → Calm m (passed ts m)
calm-passed [] m b n h = h
calm-passed (t ∷ ts) m b n h = let s = and_split (brief t) (all brief ts) b in calm-step t m s.0 n (calm-passed ts (after t m) s.1 n h)

-- ---- where a course stands

data Stage (s : State) : Machine → List Step → Type 0 where
  -- before an event other than a tick, and after it
  before : (e : Event) → (e.kind ≡ 2 → ⊥) → Stage s (view s) (whole e ∷ [])
  over : {m : Machine} → Stage s m []
  ticking : {m : Machine} {ts : List Step} → all brief ts ≡ true → Calm (view s) m → Stage s m ts

alarms-brief : (ps : List Process) → all brief (alarm_steps ps) ≡ true
unfolding alarm_steps
alarms-brief [] = refl
alarms-brief (p ∷ ps) =
    cases (is_zero p.alarm) (λ z. rw z (alarms-brief ps))
    (λ z. cases (eqb p.alarm 1) (λ o. rw (z, o) (alarms-brief ps)) (λ o. rw (z, o) (alarms-brief ps)))

stage : {s : State} {e : Event} {m : Machine} {ts : List Step} → During s e m ts → Stage s m ts
unfolding steps_of
stage {s} {e} begins =
    picked (Stage s (view s)) (eqb e.kind 2) (λ _. ticking (alarms-brief (view s).procs) (λ _ h. h)) (λ k. before e (eqb-false e.kind 2 k))
stage (goes d) = on (stage d)
  where
    on : {s : State} {m : Machine} {t : Step} {ts : List Step} → Stage s m (t ∷ ts) → Stage s (after t m) ts
    on (before e k) = over
    on {m = m} {t = t} {ts = ts} (ticking b c) =
        let h = and_split (brief t) (all brief ts) b in
        ticking h.1 (λ n a. c n (calm-step t m h.0 n a))

-- a tick is not taken as one step
brief-step : (t : Step) → brief t ≡ true → NoTick t
brief-step (whole e) b = absurd (false≢true b)
brief-step second b = tt
brief-step (counts n) b = tt
brief-step (delivers n) b = tt

pub no-tick : {m : Machine} {t : Step} {ts : List Step} → Occurs m (t ∷ ts) → NoTick t
no-tick o = go (stage o.course)
  where
    go : {s : State} {m : Machine} {t : Step} {ts : List Step} → Stage s m (t ∷ ts) → NoTick t
    go (before e k) = k
    go {t = t} {ts = ts} (ticking b c) = brief-step t (and_split (brief t) (all brief ts) b).0

-- whoever sleeps slept at first, and nobody falls asleep in the steps after the next
ahead : {s : State} {m : Machine} {t : Step} {ts : List Step} → Stage s m (t ∷ ts) → Calm (view s) m × Calm (after t m) (passed ts (after t m))
ahead (before e k) = (λ _ h. h, λ _ h. h)
ahead {m = m} {t = t} {ts = ts} (ticking b c) = (c, calm-passed ts (after t m) (and_split (brief t) (all brief ts) b).1)

ends : {s : State} {e : Event} {m : Machine} {ts : List Step} → During s e m ts → passed ts m ≡ passed (steps_of e (view s)) (view s)
ends begins = refl
ends (goes d) = ends d

-- ---- the mask

bit_mask : {A : Type 0} (f : A → Bool) (xs : List A) (i : ℕ) (d : A) → i < length xs → bit i (mask f xs) ≡ f (get_or xs i d)
bit_mask f [] i d l = absurd (not-suc-le-zero l)
bit_mask f (x ∷ xs) zero d l = rw div-one (low (f x) (mask f xs))
  where
    low : (b : Bool) (k : ℕ) → eqb ((cond b 1 0 + 2 * k) % 2) 1 ≡ b
    low true k = eq-eqb ((1 + 2 * k) % 2) 1 (omega arith)
    low false k = ne_eqb ((0 + 2 * k) % 2) 1 (λ (e : (0 + 2 * k) % 2 ≡ 1). omega arith)
bit_mask f (x ∷ xs) (suc i) d l =
    rw (pow-succ' 2 i, ← (div-div-eq-div-mul (mask f (x ∷ xs)) 2 (2 ^ i)), half (f x) (mask f xs)) (bit_mask f xs i d (le_of_suc-le-suc l))
  where
    half : (b : Bool) (k : ℕ) → (cond b 1 0 + 2 * k) / 2 ≡ k
    half true k = omega arith
    half false k = omega arith

-- where PIDs ascend, the process at a place is the one of its PID
first-at : (low : ℕ) (ps : List Process) (next i n : ℕ) (d : Process) → ascend low (pids ps) next ≡ true → i < length ps → get_or (pids ps) i 0 ≡ n → first_of n ps ≡ get_or ps i d
unfolding ascend first_of
first-at low [] next i n d up l e = absurd (not-suc-le-zero l)
first-at low (p ∷ ps) next zero n d up l e = rw (eq-eqb p.pid n e)
first-at low (p ∷ ps) next (suc i) n d up l e =
    let u = and_split (leb low p.pid) (ascend (p.pid + 1) (pids ps) next) up in
    let here : member n (pids ps) ≡ true = some-any (λ k. eqb k n) (pids ps) 0 i (rw length-map (le_of_suc-le-suc l)) (eq-eqb _ n e) in
    let other : p.pid ≡ n → ⊥ = λ (g : p.pid ≡ n). true≢false (sym here ∙ below-first n (p.pid + 1) (pids ps) next (omega arith) u.1) in
    rw (ne_eqb p.pid n other) (first-at (p.pid + 1) ps next i n d u.1 (le_of_suc-le-suc l) e)

-- where somebody woke, the event is not refused
settled-woken : (s : State) (o : Outcome Machine) (n : ℕ) → sleeps (process_of (view s) n) ≡ true → sleeps (process_of (view (settled s o).state) n) ≡ false
    → (settled s o).answer.woken ≡ woken_mask (view s) (view (settled s o).state)
unfolding settled
settled-woken s (refused r) n h k = absurd (true≢false (sym h ∙ k))
settled-woken s (answered c d3 a0 m) n h k = rw view-laid
settled-woken s (when true r o) n h k = absurd (true≢false (sym h ∙ k))
settled-woken s (when false r o) n h k = settled-woken s o n h k
settled-woken s (either true x y) n h k = settled-woken s x n h k
settled-woken s (either false x y) n h k = settled-woken s y n h k

-- whoever sleeps lives
asleep-lives : (m : Machine) (n : ℕ) → sleeps (process_of m n) ≡ true → lives m n ≡ true
asleep-lives m n h = cases (lives m n) (λ l. l) (λ d. absurd (none-sleeps (rw (dead-process m n d) at h)))

-- whoever sleeps before the event, and lives and is awake after it
shows : (s : State) (e : Event) (n : ℕ) → sound s ≡ true → sleeps (process_of (view s) n) ≡ true → lives (view (step_of s e).state) n ≡ true → sleeps (process_of (view (step_of s e).state) n) ≡ false
    → ShowsWoken s e n
unfolding step_of woken_mask lives process_of no_process new_process
shows s e n k asleep alive woke =
    let ps = (view s).procs in
    let at = any_some (λ j. eqb j n) (pids ps) 0 (asleep-lives (view s) n asleep) in
    let h : get_or (pids ps) at.at 0 ≡ n = eqb-true _ n at.passes in
    let l : at.at < length ps = rw length-map at at.inside in
    let here : first_of n ps ≡ get_or ps at.at no_process = first-at 1 ps (view s).next at.at n no_process (fit-ascend (pids ps) (view s).next (ok-view s k).frame.fit) l h in
    let pid : (get_or ps at.at no_process).pid ≡ n = sym (get_or-map (λ p. p.pid) ps at.at no_process) ∙ h in
    record {
      i = at.at;
      inside = l;
      place = h;
      woken = rw (settled-woken s (when (not (sound s)) badstate (outcome e (view s))) n asleep woke, bit_mask _ ps at.at no_process l, pid, ← here, asleep, alive, woke);
    }

pub grant-shown : {m : Machine} {t : Step} {ts : List Step} (o : Occurs m (t ∷ ts)) (n : ℕ) (r : Row) → Sleeper m n r → Granted m (after t m) n r
    → lives (view (step_of o.state o.event).state) n ≡ true → ShowsWoken o.state o.event n
grant-shown {m} {t} {ts} o n r s g alive =
    let c = ahead (stage o.course) in
    let end = ends o.course ∙ passed-all o.state o.reached o.event in
    shows o.state o.event n (reached-sound o.reached) (c.0 n (rw s.asleep)) alive
    (off _ (λ h. false≢true (rw g.awake at (c.1 n (rw end h)))))
