-- Whatever is answered leaves a sound machine. Assumes nothing.
use Prim.Native.Nat.{ℕ, zero, suc, ◌+◌, ◌-◌, ◌≤◌, ◌<◌}
use native.Mathlib.Omega.{arith}
use mathlib.Core.Path.{◌≡◌, refl, sym}
use mathlib.Core.Bool.{Bool, true, false, cond, not, ◌||◌}
use mathlib.Core.List.{List, [], ◌∷◌, ◌++◌}
use lib.ListN.{length, length-map, take, drop, replicate}
use lib.Count.{count_trailing_zeros}
use lib.Dec.{eqb, leb, ltb}
use borrow.Author.Tests.{eqb-true, eqb-false, leb-true, le-leb, not-false}
use Rattle.locks.specs.Lists.{all, member, between, is_zero, padded}
use Rattle.locks.specs.Rows.{without_twin, sound_row}
use Rattle.locks.specs.declared.rows.Row.{Row}
use Rattle.locks.proofs.Tests.{and_split, and-join, or_left, or_off}
use Rattle.locks.proofs.Lists.{all_drop, all_replicate}
use Rattle.locks.proofs.Fewer.{fewer-keep}
use Rattle.rules.specs.State.{Machine, for_signal, for_time, for_lock, pids, sleeps, asleep_for, lives, process_of}
use Rattle.rules.specs.Outcome.{Outcome, refused, answered, when, either, own}
use Rattle.rules.specs.Signals.{takes, taken}
use Rattle.rules.specs.Calls.{class_of, get_id, set_id, set_prior, set_signal, outlived, send_kill, do_fshell, do_exit, do_sleep, row_of, asks_shared, queued, lock_row, do_lock, unlock_row, do_unlock, own_call, do_call, of_class, called}
use Rattle.rules.specs.Sound.{sleep_fits, quiet}
use Rattle.rules.specs.Step.{reported, of_caller, outcome}
use Rattle.rules.specs.declared.state.Process.{Process}
use Rattle.rules.specs.declared.state.Event.{Event}
use Rattle.rules.specs.declared.calls.OwnCall.{OwnCall}
use Rattle.rules.specs.declared.calls.OwnCall.TheVariants.{GetUser, SetUser, GetGroup, SetGroup, GetPrior, SetPrior, GetProc, Signal, Sleep, Alarm, Pause}
use Rattle.rules.specs.declared.calls.Call.{Call}
use Rattle.rules.specs.declared.calls.Call.TheVariants.{Own, Lock, Unlock, Kill, Exit, FShell, Indirect}
use Rattle.rules.specs.declared.calls.Class.{Class}
use Rattle.rules.specs.declared.calls.Class.TheVariants.{Modelled, NotModelled, BadCall}
use Rattle.rules.proofs.Walk.{Leaves}
use Rattle.rules.proofs.Sane.{Sane, sane-plain, sane-signals, sane-asleep}
use Rattle.rules.proofs.Traps.{traps-xor}
use Rattle.rules.proofs.Frame.{Ok, fit_next, ok-put, live-pid, live-sane}
use Rattle.rules.proofs.Rows.{Fits, ok_rows, ok-held, ok-waits}
use Rattle.rules.proofs.Processes.{ok-ends, ok-born}
use Rattle.rules.proofs.Arrivals.{reactions-set, fits-same, ok-arrives, ok-ticked}

-- the caller: live, awake and without a trap
pub record Ready (m : Machine) (p : Process) : Type 0 where
  pub sane : Sane m.rows p
  pub live : member p.pid (pids m.procs) ≡ true
  pub awake : p.rest.sleep ≡ 0

-- a call that touches its caller alone
pub own-leaves : (m : Machine) → Ok m → (o : Outcome Process) → Leaves (Sane m.rows) o → Leaves Ok (own m o)
own-leaves m k (refused r) g = tt
own-leaves m k (answered n d3 a0 p) g = ok-put p m g k
own-leaves m k (when b r o) g = λ h. own-leaves m k o (g h)
own-leaves m k (either b x y) g = (λ h. own-leaves m k x (g.0 h), λ h. own-leaves m k y (g.1 h))

in-range : (a b n : ℕ) → between a b n ≡ true → (a ≤ n) × (n ≤ b)
in-range a b n h = let s = and_split (leb a n) (leb n b) h in (leb-true a n s.0, leb-true n b s.1)

strict : (a n : ℕ) → a ≤ n → eqb a n ≡ false → a < n
strict a n l h = let d : a ≡ n → ⊥ = eqb-false a n h in omega arith

-- ---- calls that touch their caller alone

sane-signal : (rows : List Row) (p : Process) (e : Event) → Sane rows p → Leaves (Sane rows) (set_signal p e)
unfolding set_signal
sane-signal rows p e s =
    λ h.
    let a = or_off (not (between 1 7 e.d2) || eqb e.d2 3) (eqb p.pid 1) h in
    let b = or_off (not (between 1 7 e.d2)) (eqb e.d2 3) a.0 in
    let c = in-range 1 7 e.d2 (not-false (between 1 7 e.d2) b.0) in
    let d : e.d2 ≡ 3 → ⊥ = eqb-false e.d2 3 b.1 in
    sane-signals s _ s.calm s.traps
    (reactions-set p.pid e.d2 e.a0 p.signals.reactions (eqb-false p.pid 1 a.1) (λ (q : e.d2 - 1 ≡ 2). omega arith) s.reacts)

-- a sleep that is not for a lock
sane-sleep : (rows : List Row) (p : Process) (kind seconds : ℕ) → eqb kind for_lock ≡ false → sleep_fits kind seconds ≡ true → p.signals.pending ≡ 0 → p.rest.sleep ≡ 0 → Sane rows p
    → Sane rows (asleep_for kind seconds p)
sane-sleep rows p kind seconds d f z a s = sane-asleep s rows kind seconds f z (fits-same rows p.pid p.rest.sleep kind (rw a) d s.locks)

timed : (n : ℕ) → is_zero n ≡ false → sleep_fits for_time n ≡ true
unfolding sleep_fits
timed n h = let d : n ≡ 0 → ⊥ = eqb-false n 0 h in le-leb 1 n (omega arith)

paused : sleep_fits for_signal 0 ≡ true
unfolding sleep_fits
paused = refl

sane-taken : (rows : List Row) (p : Process) → p.rest.sleep ≡ 0 → Sane rows p → Leaves (Sane rows) (taken p)
unfolding taken takes quiet
sane-taken rows p a s = (
  λ _. s,
  λ h.
      let i = count_trailing_zeros 8 p.signals.pending in
      let e : i + 1 - 1 ≡ i = omega arith in
      sane-signals s _ (or_left (eqb p.rest.sleep 0) _ (rw a)) (rw e (traps-xor p.signals.pending p.signals.traps (eqb-false p.signals.pending 0 h) s.traps)) s.reacts,
)

-- ---- the row asked for

zeros-after : (d k : ℕ) (s : List ℕ) → all is_zero (drop d (take d s ++ replicate k 0)) ≡ true
zeros-after zero k s = all_replicate is_zero 0 refl k
zeros-after (suc d) k [] = all_drop is_zero (suc d) (replicate k 0) (all_replicate is_zero 0 refl k)
zeros-after (suc d) k (x ∷ s) = zeros-after d k s

row-sound : (p : Process) (e : Event) (b : Bool) (live : List ℕ) → member p.pid live ≡ true → between 1 16 e.d3 ≡ true → sound_row live (row_of p e b) ≡ true
unfolding sound_row row_of padded
row-sound p e b live l h = and-join _ _ (and-join (between 1 16 e.d3) _ h l) (zeros-after e.d3 (16 - length (take e.d3 e.seq)) e.seq)

pub row-owner : (p : Process) (e : Event) (b : Bool) → (row_of p e b).owner ≡ p.pid
unfolding row_of
row-owner p e b = refl

-- ---- the other calls

module _ (p : Process) (e : Event) (m : Machine) (r : Ready m p) (o : Ok m) where
  sound-lock : p.signals.pending ≡ 0 → Leaves Ok (do_lock p e m)
  unfolding do_lock lock_row queued
  sound-lock z =
      λ h10 twins _ _ h13.
      let a = or_off (ltb 3 e.d2) _ h10 in
      let b = or_off (not (between 1 16 e.d3)) _ a.1 in
      let fits : Fits m (row_of p e (asks_shared e)) = record {
        sound = row-sound p e (asks_shared e) (pids m.procs) r.live (not-false (between 1 16 e.d3) b.0);
        first = twins;
        room = strict (length m.rows) 32 o.frame.rows_few h13;
      } in
      (λ w. ok-waits _ p m (sym (row-owner p e (asks_shared e))) r.awake z r.sane fits w o, λ w. ok-held _ m fits w o)

  sound-kill : Leaves Ok (send_kill p e m)
  unfolding send_kill outlived
  sound-kill =
      λ h _ _.
      let s = or_off (not (between 1 7 e.d2)) (not (between 2 65535 e.d3)) h in
      let b = in-range 1 7 e.d2 (not-false (between 1 7 e.d2) s.0) in
      let c = in-range 2 65535 e.d3 (not-false (between 2 65535 e.d3) s.1) in
      let k = ok-arrives e.d2 e.d3 m b.1 (λ (q : e.d3 ≡ 1). absurd (omega arith)) o in
      (λ _. k, λ _. k)

  sound-fshell : Leaves Ok (do_fshell p e m)
  unfolding do_fshell
  sound-fshell =
      λ _ h.
      let s = or_off (eqb (length m.procs) 16) (eqb m.next 65536) h in
      let few : length m.procs ≤ 16 = rw length-map at o.frame.few in
      ok-born p e m r.sane (strict (length m.procs) 16 few s.0) (strict m.next 65536 (fit_next _ _ o.frame.fit).1 s.1) o

  sane-own : (c : OwnCall) → p.signals.pending ≡ 0 → Leaves (Sane m.rows) (own_call c p e)
  unfolding own_call get_id set_id set_prior do_sleep
  sane-own GetUser z = λ _. r.sane
  sane-own SetUser z = λ _ _. sane-plain r.sane _ _ _ _ r.sane.prior
  sane-own GetGroup z = λ _. r.sane
  sane-own SetGroup z = λ _ _. sane-plain r.sane _ _ _ _ r.sane.prior
  sane-own GetPrior z = r.sane
  sane-own SetPrior z = λ h _. sane-plain r.sane _ _ _ _ (not-false _ h)
  sane-own GetProc z = r.sane
  sane-own Signal z = sane-signal m.rows p e r.sane
  sane-own Sleep z = (λ _. r.sane, λ h. sane-sleep m.rows p for_time e.d3 refl (timed e.d3 h) z r.awake r.sane)
  sane-own Alarm z = sane-plain r.sane _ _ _ _ r.sane.prior
  sane-own Pause z = sane-sleep m.rows p for_signal 0 refl paused z r.awake r.sane

  sound-call : (c : Call) → p.signals.pending ≡ 0 → Leaves Ok (do_call c p e m)
  unfolding do_call do_exit do_unlock unlock_row without_twin
  sound-call (Own c) z = own-leaves m o (own_call c p e) (sane-own c z)
  sound-call Lock z = sound-lock z
  sound-call Unlock z = λ _ _. ok_rows _ m (fewer-keep _ m.rows) o
  sound-call Kill z = sound-kill
  sound-call Exit z = λ h. ok-ends p.pid m (eqb-false p.pid 1 h) o
  sound-call FShell z = sound-fshell
  sound-call Indirect z = tt

  sound-class : (c : Class) → p.signals.pending ≡ 0 → Leaves Ok (of_class c p e m)
  unfolding of_class
  sound-class (Modelled c) z = sound-call c z
  sound-class NotModelled z = tt
  sound-class BadCall z = tt

  sound-caller : Leaves Ok (of_caller p e m)
  unfolding of_caller called reported
  sound-caller = (
    λ _ h. sound-class (class_of (cond (eqb e.call 0x51) e.d0 e.call)) (eqb-true p.signals.pending 0 (not-false (eqb p.signals.pending 0) h)),
    λ _. (λ _. own-leaves m o (taken p) (sane-taken m.rows p r.awake r.sane), λ _. ok-put p m r.sane o),
  )

pub ready : (m : Machine) (n : ℕ) → Ok m → lives m n ≡ true → sleeps (process_of m n) ≡ false → Ready m (process_of m n)
unfolding lives
ready m n o l a = record { sane = live-sane m n o l; live = rw (live-pid m n l) l; awake = eqb-true _ 0 (not-false _ a) }

pub stays : (e : Event) (m : Machine) → Ok m → Leaves Ok (outcome e m)
unfolding outcome
stays e m o =
    λ _. (
      λ _. ok-ticked m o,
      λ _ l a. sound-caller (process_of m e.caller) e m (ready m e.caller o (not-false (lives m e.caller) l) a) o,
    )
