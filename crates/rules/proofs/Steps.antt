-- Every step leaves a sleeper for a lock one of its three fates. Assumes nothing.
use Prim.Native.Nat.{ℕ}
use mathlib.Core.Path.{◌≡◌, refl, sym, ap, ◌∙◌}
use mathlib.Core.Bool.{Bool, true, false, cond, ◌&&◌, true≢false, false≢true, and-false, and-true, or-false}
use mathlib.Core.Logic.{◌⊎◌, inl, inr}
use mathlib.Core.List.{List, [], ◌∷◌}
use lib.Dec.{eqb, lit<}
use borrow.Author.Tests.{eqb-true}
use Rattle.locks.specs.Lists.{any, member}
use Rattle.locks.specs.declared.rows.Row.{Row}
use Rattle.locks.proofs.Tests.{cases, picked, and-join, or_left, or_right}
use Rattle.rules.specs.State.{Machine, for_lock, no_process, new_process, pids, asleep_for, lives, process_of, put, each}
use Rattle.rules.specs.Outcome.{Outcome, refused, answered, when, either, own}
use Rattle.rules.specs.Signals.{takes, taken}
use Rattle.rules.specs.Clock.{slept}
use Rattle.rules.specs.Calls.{modelled, indirect, listed, class_among, class_of, get_id, set_id, set_prior, set_signal, outlived, send_kill, born, do_fshell, do_exit, do_sleep, row_of, appended, queued, lock_row, do_lock, unlock_row, do_unlock, own_call, do_call, of_class, called}
use Rattle.rules.specs.Step.{reported, of_caller, outcome}
use Rattle.rules.specs.Demands.{Step, whole, second, counts, delivers, after, Sleeper, by_alarm, by_kill, Fate}
use Rattle.rules.specs.declared.state.Process.{Process}
use Rattle.rules.specs.declared.state.Event.{Event}
use Rattle.rules.specs.declared.calls.OwnCall.{OwnCall}
use Rattle.rules.specs.declared.calls.OwnCall.TheVariants.{GetUser, SetUser, GetGroup, SetGroup, GetPrior, SetPrior, GetProc, Signal, Sleep, Alarm, Pause}
use Rattle.rules.specs.declared.calls.Call.{Call}
use Rattle.rules.specs.declared.calls.Call.TheVariants.{Own, Lock, Unlock, Kill, Exit, FShell, Indirect}
use Rattle.rules.specs.declared.calls.Class.{Class}
use Rattle.rules.specs.declared.calls.Class.TheVariants.{Modelled, NotModelled, BadCall}
use Rattle.rules.proofs.Walk.{Leaves}
use Rattle.rules.proofs.Frame.{Ok, pids-map, fit-ascend, below-first, live-pid}
use Rattle.rules.proofs.Arrivals.{dead-process, slept-pid}
use Rattle.rules.proofs.Courses.{left-good}
use Rattle.rules.proofs.Fates
use Rattle.rules.proofs.Fates.{cut-twin}
use Rattle.rules.proofs.Places.{put-lives, put_other, born-lives, born-process, first-slept, first-put}
use Rattle.rules.proofs.Heard

slept-lock : (p : Process) → p.rest.sleep ≡ for_lock → slept p ≡ p
unfolding slept
slept-lock p e = rw e

-- the call's number
abbrev number : Event → ℕ
number e = cond (eqb e.call indirect) e.d0 e.call

-- ---- kill is asked for by its number

abbrev is_kill : Call → Bool
is_kill (Own c) = false
is_kill Lock = false
is_kill Unlock = false
is_kill Kill = true
is_kill Exit = false
is_kill FShell = false
is_kill Indirect = false

abbrev kills : Class → Bool
kills (Modelled c) = is_kill c
kills NotModelled = false
kills BadCall = false

kill-among : (cs : List (ℕ × Call)) (n : ℕ) → kills (class_among cs n) ≡ true → any (λ c. eqb n c.0 && is_kill c.1) cs ≡ true
unfolding class_among
kill-among [] n h = absurd (picked (λ c. kills c ≡ true → ⊥) (listed n) (λ _. false≢true) (λ _. false≢true) h)
kill-among (c ∷ cs) n h =
    cases (eqb n c.0) (λ e. or_left _ _ (and-join (eqb n c.0) _ e (rw e at h))) (λ e. or_right (eqb n c.0 && is_kill c.1) _ (kill-among cs n (rw e at h)))

kill-number : (n : ℕ) → class_of n ≡ Modelled Kill → n ≡ 0x41
unfolding class_of modelled
kill-number n h = eqb-true n 0x41 (simp (and-false, and-true, or-false) at (kill-among modelled n (ap kills h)))

kill-asked : (e : Event) → class_of (number e) ≡ Modelled Kill → (e.call ≡ 0x41) ⊎ ((e.call ≡ 0x51) × (e.d0 ≡ 0x41))
kill-asked e h =
    cases (eqb e.call indirect) (λ i. inr (eqb-true e.call indirect i, kill-number e.d0 (rw i at h))) (λ i. inl (kill-number e.call (rw i at h)))

-- no step is a tick taken whole
abbrev pub NoTick : Step → Type 0
NoTick (whole e) = e.kind ≡ 2 → ⊥
NoTick second = Unit {0}
NoTick (counts k) = Unit {0}
NoTick (delivers k) = Unit {0}

module _ (m : Machine) (n : ℕ) (r : Row) (o : Ok m) (s : Sleeper m n r) where
  abbrev Fated : Step → Machine → Type 0
  Fated t w = Fate t m w n r

  -- n's process as it was
  as-was : {p : Process} → p ≡ process_of m n → p.rest.sleep ≡ for_lock
  as-was e = ap (λ (p : Process). p.rest.sleep) e ∙ s.asleep

  -- ---- one process put in its place

  -- where it is n's, it sleeps for a lock too
  fate-put : (t : Step) (q : Process) → (q.pid ≡ n → q.rest.sleep ≡ for_lock) → Fate t m (put q m) n r
  unfolding process_of put
  fate-put t q i = Fates.still t m n r o s (put q m) refl (put-lives m n q ∙ s.lives) (first-put (λ p. p.rest.sleep ≡ for_lock) q n m.procs i s.asleep)

  -- the PID of the unused places is nobody's
  same-sleep : (k : ℕ) → (process_of m k).pid ≡ n → (process_of m k).rest.sleep ≡ for_lock
  unfolding lives no_process new_process
  same-sleep k e =
      cases (lives m k) (λ l. as-was (ap (process_of m) (sym (live-pid m k l) ∙ e)))
      (λ d.
      let z : 0 ≡ n = ap (λ (p : Process). p.pid) (sym (dead-process m k d)) ∙ e in
      absurd (true≢false (sym (rw (← z) at s.lives) ∙ below-first 0 1 (pids m.procs) m.next (lit< tt) (fit-ascend (pids m.procs) m.next o.frame.fit))))

  fate-own : (t : Step) (x : Outcome Process) → Leaves (λ q. q.pid ≡ n → ⊥) x → Leaves (Fated t) (own m x)
  fate-own t (refused c) g = tt
  fate-own t (answered k d3 a0 q) g = fate-put t q (λ e. absurd (g e))
  fate-own t (when b c x) g = λ h. fate-own t x (g h)
  fate-own t (either b x y) g = (λ h. fate-own t x (g.0 h), λ h. fate-own t y (g.1 h))

  -- ---- the calls of another

  module _ (p : Process) (e : Event) (d : p.pid ≡ n → ⊥) where
    own-other : (c : OwnCall) → Leaves (λ q. q.pid ≡ n → ⊥) (own_call c p e)
    unfolding own_call get_id set_id set_prior set_signal do_sleep
    own-other GetUser = λ _. d
    own-other SetUser = λ _ _. d
    own-other GetGroup = λ _. d
    own-other SetGroup = λ _ _. d
    own-other GetPrior = d
    own-other SetPrior = λ _ _. d
    own-other GetProc = d
    own-other Signal = λ _. d
    own-other Sleep = (λ _. d, λ _. d)
    own-other Alarm = d
    own-other Pause = d

    fate-lock : Leaves (Fated (whole e)) (do_lock p e m)
    unfolding do_lock lock_row queued appended row_of put lives process_of
    fate-lock =
        λ _ _ _ _ _. (
          λ _. Fates.row-comes (whole e) m n r o s _ _ refl d (put-lives m n (asleep_for for_lock 0 p) ∙ s.lives) (as-was (put_other m n (asleep_for for_lock 0 p) d)),
          λ _. Fates.row-comes (whole e) m n r o s _ _ refl d s.lives s.asleep,
        )

    fate-born : (c : Process) → Fate (whole e) m (born c m) n r
    unfolding born
    fate-born c = Fates.still (whole e) m n r o s (born c m) refl (born-lives m n c s.lives) (as-was (born-process m n c s.lives))

    fate-call : (c : Call) → e.kind ≡ 1 → class_of (number e) ≡ Modelled c → Leaves (Fated (whole e)) (do_call c p e m)
    unfolding do_call send_kill outlived do_fshell do_exit do_unlock unlock_row row_of
    fate-call (Own c) k h = fate-own (whole e) (own_call c p e) (own-other c)
    fate-call Lock k h = fate-lock
    fate-call Unlock k h = λ _ _. Heard.fate-left (whole e) m n r o s p.pid m _ (λ (f : n ≡ p.pid). d (sym f)) (cut-twin _ m.rows) s.lives refl
    fate-call Kill k h = λ _ _ _. let z = Heard.fate-arrives (whole e) m n r o s e.d2 e.d3 (by_kill e (k, kill-asked e h)) in (λ _. z, λ _. z)
    fate-call Exit k h = λ _. Heard.fate-ends (whole e) m n r o s p.pid (λ (f : n ≡ p.pid). d (sym f))
    fate-call FShell k h = λ _ _. fate-born _
    fate-call Indirect k h = tt

    fate-class : (c : Class) → e.kind ≡ 1 → class_of (number e) ≡ c → Leaves (Fated (whole e)) (of_class c p e m)
    unfolding of_class
    fate-class (Modelled c) k h = fate-call c k h
    fate-class NotModelled k h = tt
    fate-class BadCall k h = tt

    fate-caller : Leaves (Fated (whole e)) (of_caller p e m)
    unfolding of_caller called taken takes reported
    fate-caller = (
      λ k _. fate-class _ (eqb-true e.kind 1 k) refl,
      λ _. fate-own (whole e) (either (eqb e.kind 3) (taken p) (reported p)) (λ _. (λ _. d, λ _. d), λ _. d),
    )

  -- ---- every step

  -- a caller is awake
  fate-whole : (e : Event) → (e.kind ≡ 2 → ⊥) → Leaves (Fated (whole e)) (outcome e m)
  unfolding outcome
  fate-whole e k =
      λ _. (
        λ t. absurd (k (eqb-true e.kind 2 t)),
        λ _ _ a. fate-caller (process_of m e.caller) e (λ (f : (process_of m e.caller).pid ≡ n). true≢false (rw (same-sleep e.caller f) at a)),
      )

  fate-second : Fate second m (each slept m) n r
  unfolding lives process_of each
  fate-second =
      Fates.still second m n r o s (each slept m) refl (ap (member n) (pids-map slept slept-pid m.procs) ∙ s.lives)
      (as-was (first-slept n m.procs ∙ slept-lock (process_of m n) s.asleep))

pub fate-step : (t : Step) → NoTick t → (m : Machine) → Ok m → (n : ℕ) (r : Row) → Sleeper m n r → Fate t m (after t m) n r
unfolding after
fate-step (whole e) k m o n r s = left-good (λ w. Fate (whole e) m w n r) m (outcome e m) (Heard.fate-same (whole e) m n r o s) (fate-whole m n r o s e k)
fate-step second k m o n r s = fate-second m n r o s
fate-step (counts j) k m o n r s = fate-put m n r o s (counts j) _ (same-sleep m n r o s j)
fate-step (delivers j) k m o n r s = Heard.fate-arrives (delivers j) m n r o s 5 j (by_alarm j)
