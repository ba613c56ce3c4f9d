-- A signal arrives, and a second passes: the machine stays sound. Assumes nothing.
use Prim.Native.Nat.{ℕ, zero, suc, ◌-◌, ◌≤◌}
use native.Mathlib.Omega.{arith}
use mathlib.Core.Path.{◌≡◌, refl, sym, ap, subst, ◌∙◌}
use mathlib.Core.Bool.{true, false, not, true≢false, and-eq-true_iff}
use mathlib.Core.List.{List, [], ◌∷◌, ◌++◌}
use lib.ListN.{length, get_or, set, replicate}
use lib.Seq.{get_or-set_other}
use lib.Dec.{eqb, lit≤}
use borrow.Author.Tests.{eqb-true, eq-eqb, eqb-false, ne_eqb, leb-true, le-leb, not-false}
use Rattle.locks.specs.Lists.{sift, is_zero}
use Rattle.locks.specs.Rows.{waits_of, waiting_of, without_waiting}
use Rattle.locks.specs.declared.rows.Row.{Row}
use Rattle.locks.proofs.Tests.{cases, picked, off, or_left}
use Rattle.locks.proofs.Lists.{all-mono, all_of_map}
use Rattle.locks.proofs.Fewer.{Fewer, nil, fewer-refl, fewer-sift, fewer-end, fewer-end-gone, still-waits}
use Rattle.rules.specs.State.{Machine, abort, ignore, for_lock, for_time, by_signal, by_time, no_process, new_process, pids, sleeps, reaction_to, with_signals, with_alarm, lives, process_of, in_place, put, each, granted, rows_left}
use Rattle.rules.specs.Signals.{roused, trapped, reacts, arrives}
use Rattle.rules.specs.Clock.{slept, rings, alarms, ticked}
use Rattle.rules.specs.Sound.{sleep_fits, wake_fits, quiet, traps_fit, reactions_fit, lock_fits, sound_process}
use Rattle.rules.specs.declared.state.Signals.{Signals}
use Rattle.rules.specs.declared.state.Process.{Process}
use Rattle.rules.proofs.Sane.{Sane, sane, sound-sane, sane-plain, sane-asleep, sane-woken}
use Rattle.rules.proofs.Traps.{traps-or}
use Rattle.rules.proofs.Frame.{Ok, frame-fewer, pids-map, pids-put, all-put, ok-map, ok-put, fit-one, first-none, live-pid, live-sane}
use Rattle.rules.proofs.Rows.{granted-pid, granted-sane}
use Rattle.rules.proofs.Processes.{ok-ends}

-- ---- the rows of a lock sleeper that a signal wakes

none_left : (n : ℕ) (cs bs rows : List Row) → Fewer cs bs → length (sift (waits_of n) cs (sift (λ earlier q. not (waits_of n earlier q)) bs rows)) ≡ 0
none_left n cs bs [] t = refl
none_left n cs bs (r ∷ rows) t =
    cases (waits_of n bs r) (λ e. rw e (none_left n cs (bs ++ r ∷ []) rows (fewer-end-gone r t)))
    (λ e.
    let f : waits_of n cs r ≡ false = off (waits_of n cs r) (λ h. true≢false (sym (still-waits n r t h) ∙ e)) in
    rw (e, f) (none_left n (cs ++ r ∷ []) (bs ++ r ∷ []) rows (fewer-end r t)))

pub none-waiting : (n : ℕ) (rows : List Row) → lock_fits (without_waiting n rows) n 0 ≡ true
unfolding lock_fits waiting_of without_waiting
none-waiting n rows = eq-eqb _ 0 (none_left n [] [] rows nil)

pub fewer-without : (n : ℕ) (rows : List Row) → Fewer (without_waiting n rows) rows
unfolding without_waiting
fewer-without n rows = fewer-sift (λ earlier q. not (waits_of n earlier q)) [] rows

-- ---- a trap

pub reactions-set : (pid s a : ℕ) (reactions : List ℕ) → (pid ≡ 1 → ⊥) → (s - 1 ≡ 2 → ⊥) → reactions_fit pid reactions ≡ true → reactions_fit pid (set reactions (s - 1) a) ≡ true
unfolding reactions_fit
reactions-set pid s a reactions d k h =
    let t = simp and-eq-true_iff at h in
    simp and-eq-true_iff (rw (get_or-set_other reactions (s - 1) 2 a abort (λ (e : 2 ≡ s - 1). k (sym e))) t.0, or_left (not (eqb pid 1)) _ (rw (ne_eqb pid 1 d)))

by-signal : (n : ℕ) → wake_fits by_signal n ≡ true
unfolding wake_fits
by-signal n = refl

roused-awake : (p : Process) → (roused p).rest.sleep ≡ 0
unfolding roused
roused-awake p = picked (λ (q : Process). q.rest.sleep ≡ 0) (sleeps p) (λ _. refl) (λ e. eqb-true p.rest.sleep 0 (not-false _ e))

-- awake, with its traps and reactions
sane-roused : {rows : List Row} {p : Process} (left : List Row) (g : Signals) → Sane rows p → lock_fits left p.pid 0 ≡ true → traps_fit g.pending g.traps ≡ true → reactions_fit p.pid g.reactions ≡ true
    → Sane left (roused (with_signals g p))
unfolding roused sleep_fits quiet
sane-roused {p = p} left g s l t r =
    picked (Sane left) (sleeps p)
    (λ e. record { sleeps = refl; woke = by-signal p.rest.seconds; calm = refl; traps = t; prior = s.prior; reacts = r; locks = l })
    (λ e.
    let a : p.rest.sleep ≡ 0 = eqb-true p.rest.sleep 0 (not-false _ e) in
    record { sleeps = s.sleeps; woke = s.woke; calm = rw a; traps = t; prior = s.prior; reacts = r; locks = rw a l })

pub trapped-awake : (s a : ℕ) (p : Process) → (trapped s a p).rest.sleep ≡ 0
unfolding trapped
trapped-awake s a p = roused-awake _

trapped-sane : (rows : List Row) (s a n : ℕ) (p : Process) → p.pid ≡ n → s ≤ 7 → (s - 1 ≡ 2 → ⊥) → (n ≡ 1 → ⊥) → Sane rows p → Sane (without_waiting n rows) (trapped s a p)
unfolding trapped
trapped-sane rows s a n p e l k d h =
    sane-roused (without_waiting n rows) _ h (rw e (none-waiting n rows)) (traps-or (s - 1) p.signals.pending a p.signals.traps (omega arith) k h.traps)
    (reactions-set p.pid s ignore p.signals.reactions (λ (q : p.pid ≡ 1). d (sym e ∙ q)) k h.reacts)

pub granted-awake : (rows : List Row) (p : Process) → p.rest.sleep ≡ 0 → granted rows p ≡ p
unfolding granted
granted-awake rows p e = rw e

-- q takes its place, awake, and these rows are left
ok-woken : (q : Process) (left : List Row) (m : Machine) → Fewer left m.rows → q.rest.sleep ≡ 0 → Sane left q → Ok m → Ok (rows_left left (put q m))
unfolding rows_left put
ok-woken q left m t a s o =
    record {
      frame = rw (pids-map (granted left) (granted-pid left), pids-put q m.procs) (frame-fewer t o.frame);
      procs =
          all_of_map (sound_process left) (granted left) (λ p. sound_process left (granted left p)) (λ p h. h) (in_place q m.procs)
          (all-put (λ p. sound_process left (granted left p)) q m.procs (rw (granted-awake left q a) (sound-sane s))
          (all-mono (sound_process m.rows) (λ p. sound_process left (granted left p)) (λ p h. sound-sane (granted-sane left m.rows t p (sane h))) m.procs o.procs));
    }

-- ---- a signal

kill-aborts : (pid : ℕ) (reactions : List ℕ) → reactions_fit pid reactions ≡ true → get_or reactions 2 abort ≡ abort
unfolding reactions_fit
kill-aborts pid reactions h = eqb-true _ abort (simp and-eq-true_iff at h).0

alarm-ignored : (reactions : List ℕ) → reactions_fit 1 reactions ≡ true → get_or reactions 4 abort ≡ ignore
unfolding reactions_fit
alarm-ignored reactions h = eqb-true (get_or reactions 4 abort) ignore (simp and-eq-true_iff at h).1.1.1.1.0

pub no-reaction : (s : ℕ) → reaction_to s no_process ≡ abort
unfolding no_process new_process
no-reaction s = zeros 7 (s - 1)
  where
    zeros : (k i : ℕ) → ◌≡◌ {A = ℕ} (get_or (replicate k 0) i 0) 0
    zeros zero i = refl
    zeros (suc k) zero = refl
    zeros (suc k) (suc i) = zeros k i

pub dead-process : (m : Machine) (n : ℕ) → lives m n ≡ false → process_of m n ≡ no_process
unfolding lives process_of
dead-process m n h = first-none n m.procs h

-- process 1 ignores the signal
pub ok-arrives : (s n : ℕ) (m : Machine) → s ≤ 7 → (n ≡ 1 → reaction_to s (process_of m n) ≡ ignore) → Ok m → Ok (arrives s n m)
unfolding arrives reacts
ok-arrives s n m l one o =
    picked Ok (eqb a ignore) (λ _. o)
    (λ e1. picked Ok (eqb a abort) (λ _. ok-ends n m (not-one e1) o) (λ e0. cases (lives m n) (living e1 e0) (λ d. absurd (eqb-false a abort e0 (dead d)))))
  where
    p : Process
    p = process_of m n

    a : ℕ
    a = reaction_to s p

    not-one : eqb a ignore ≡ false → n ≡ 1 → ⊥
    not-one e f = eqb-false a ignore e (one f)

    dead : lives m n ≡ false → a ≡ abort
    dead d = rw (dead-process m n d) (no-reaction s)

    living : eqb a ignore ≡ false → eqb a abort ≡ false → lives m n ≡ true → Ok (rows_left (without_waiting n m.rows) (put (trapped s a p) m))
    living e1 e0 h =
        let k = live-sane m n o h in
        let not-kill : s - 1 ≡ 2 → ⊥ = λ (q : s - 1 ≡ 2). eqb-false a abort e0 (ap (λ (i : ℕ). get_or p.signals.reactions i abort) q ∙ kill-aborts p.pid p.signals.reactions k.reacts) in
        ok-woken (trapped s a p) (without_waiting n m.rows) m (fewer-without n m.rows) (trapped-awake s a p)
        (trapped-sane m.rows s a n p (live-pid m n h) l not-kill (not-one e1) k) o

-- ---- a second

pub slept-pid : (p : Process) → (slept p).pid ≡ p.pid
unfolding slept
slept-pid p =
    picked (λ (q : Process). q.pid ≡ p.pid) (eqb p.rest.sleep for_time)
    (λ _. picked (λ (q : Process). q.pid ≡ p.pid) (eqb p.rest.seconds 1) (λ _. refl) (λ _. refl)) (λ _. refl)

timed-left : (n : ℕ) → sleep_fits for_time n ≡ true → (n ≡ 1 → ⊥) → sleep_fits for_time (n - 1) ≡ true
unfolding sleep_fits
timed-left n h d = let j = leb-true 1 n h in le-leb 1 (n - 1) (omega arith)

-- neither is a lock sleeper
pub fits-same : (rows : List Row) (n k j : ℕ) → eqb k for_lock ≡ false → eqb j for_lock ≡ false → lock_fits rows n k ≡ true → lock_fits rows n j ≡ true
unfolding lock_fits
fits-same rows n k j d e h = rw e (rw d at h)

by-time : wake_fits by_time 0 ≡ true
unfolding wake_fits
by-time = refl

pub slept-sane : (rows : List Row) (p : Process) → Sane rows p → Sane rows (slept p)
unfolding slept quiet
slept-sane rows p s =
    picked (Sane rows) (eqb p.rest.sleep for_time)
    (λ e.
    let f = eqb-true p.rest.sleep for_time e in
    picked (Sane rows) (eqb p.rest.seconds 1)
    (λ _. sane-woken s rows by_time 0 by-time (fits-same rows p.pid p.rest.sleep 0 (rw f) refl s.locks))
    (λ d.
    sane-asleep s rows for_time (p.rest.seconds - 1) (timed-left p.rest.seconds (rw f at s.sleeps) (eqb-false p.rest.seconds 1 d))
    (eqb-true p.signals.pending 0 (rw f at s.calm)) (rw f at s.locks)))
    (λ _. s)

pub ignores-alarm : (m : Machine) → Ok m → reaction_to 5 (process_of m 1) ≡ ignore
unfolding lives
ignores-alarm m o =
    let h = fit-one (pids m.procs) m.next o.frame.fit in
    alarm-ignored (process_of m 1).signals.reactions (subst (λ (n : ℕ). reactions_fit n (process_of m 1).signals.reactions ≡ true) (live-pid m 1 h) (live-sane m 1 o h).reacts)

pub ok-alarm : (n a : ℕ) (m : Machine) → lives m n ≡ true → Ok m → Ok (put (with_alarm a (process_of m n)) m)
ok-alarm n a m h o = let s = live-sane m n o h in ok-put _ m (sane-plain s _ _ _ a s.prior) o

pub no-alarm : (m : Machine) → rings no_process m ≡ m
unfolding rings no_process new_process
no-alarm m = refl

ok-rings : (n : ℕ) (m : Machine) → Ok m → Ok (rings (process_of m n) m)
unfolding rings
ok-rings n m o =
    cases (lives m n)
    (λ h.
    picked Ok (is_zero p.alarm) (λ _. o)
    (λ _. picked Ok (eqb p.alarm 1) (λ _. delivered (put (with_alarm 0 p) m) (ok-alarm n 0 m h o)) (λ _. ok-alarm n (p.alarm - 1) m h o)))
    (λ h. rw (dead-process m n h, no-alarm m) o)
  where
    p : Process
    p = process_of m n

    delivered : (w : Machine) → Ok w → Ok (arrives 5 p.pid w)
    delivered w k = ok-arrives 5 p.pid w (lit≤ tt) (λ (e : p.pid ≡ 1). rw e (ignores-alarm w k)) k

ok-alarms : (ns : List ℕ) (m : Machine) → Ok m → Ok (alarms ns m)
unfolding alarms
ok-alarms [] m o = o
ok-alarms (n ∷ ns) m o = ok-alarms ns (rings (process_of m n) m) (ok-rings n m o)

pub ok-ticked : (m : Machine) → Ok m → Ok (ticked m)
unfolding ticked each
ok-ticked m o = ok-alarms (pids m.procs) _ (ok-map slept slept-pid m m.rows (fewer-refl m.rows) (slept-sane m.rows) o)
