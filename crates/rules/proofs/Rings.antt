-- Whatever is answered leaves rows without a ring of waiters, where there was none. Assumes nothing.
use Prim.Native.Nat.{ℕ, ◌-◌}
use mathlib.Core.List.{List, [], ◌∷◌}
use lib.Dec.{eqb}
use Rattle.locks.specs.Lists.{is_zero}
use Rattle.locks.specs.Rows.{without_twin, without_owner}
use Rattle.chains.specs.Chains.{RingFree}
use Rattle.locks.proofs.Tests.{picked, and-off}
use Rattle.locks.proofs.Fewer.{Fewer, fewer-refl, fewer-trans, fewer-keep}
use Rattle.chains.proofs.Rings.{fewer-free, free-end}
use Rattle.rules.specs.State.{Machine, abort, ignore, pids, reaction_to, with_alarm, process_of, put, each, rows_left}
use Rattle.rules.specs.Outcome.{Outcome, refused, answered, when, either, own}
use Rattle.rules.specs.Signals.{gone, ends, reacts, arrives, taken}
use Rattle.rules.specs.Clock.{rings, alarms, ticked}
use Rattle.rules.specs.Calls.{outlived, send_kill, do_fshell, born, do_exit, appended, queued, lock_row, do_lock, unlock_row, do_unlock, own_call, do_call, of_class, called}
use Rattle.rules.specs.Step.{reported, of_caller, outcome}
use Rattle.rules.specs.declared.state.Process.{Process}
use Rattle.rules.specs.declared.state.Event.{Event}
use Rattle.rules.specs.declared.calls.Call.{Call}
use Rattle.rules.specs.declared.calls.Call.TheVariants.{Own, Lock, Unlock, Kill, Exit, FShell, Indirect}
use Rattle.rules.specs.declared.calls.Class.{Class}
use Rattle.rules.specs.declared.calls.Class.TheVariants.{Modelled, NotModelled, BadCall}
use Rattle.rules.proofs.Walk.{Leaves}
use Rattle.rules.proofs.Arrivals.{fewer-without}

abbrev pub Free : Machine → Type 0
Free m = RingFree m.rows

-- ---- signals and ticks take rows away, and bring none

-- the rows after are those before, some taken out
abbrev pub Less : Machine → Machine → Type 0
Less m after = Fewer after.rows m.rows

pub less-put : (q : Process) (m : Machine) → Less m (put q m)
unfolding put
less-put q m = fewer-refl m.rows

pub less-ends : (n : ℕ) (m : Machine) → Less m (ends n m)
unfolding ends gone rows_left without_owner
less-ends n m = fewer-keep _ m.rows

pub less-arrives : (s n : ℕ) (m : Machine) → Less m (arrives s n m)
unfolding arrives reacts rows_left
less-arrives s n m =
    let a = reaction_to s (process_of m n) in
    picked (Less m) (eqb a ignore) (λ _. fewer-refl m.rows)
    (λ _. picked (Less m) (eqb a abort) (λ _. less-ends n m) (λ _. fewer-without n m.rows))

less-rings : (p : Process) (m : Machine) → Less m (rings p m)
unfolding rings
less-rings p m =
    picked (Less m) (is_zero p.alarm) (λ _. fewer-refl m.rows)
    (λ _.
    picked (Less m) (eqb p.alarm 1) (λ _. fewer-trans (less-arrives 5 p.pid (put (with_alarm 0 p) m)) (less-put (with_alarm 0 p) m))
    (λ _. less-put (with_alarm (p.alarm - 1) p) m))

less-alarms : (ns : List ℕ) (m : Machine) → Less m (alarms ns m)
unfolding alarms
less-alarms [] m = fewer-refl m.rows
less-alarms (n ∷ ns) m = fewer-trans (less-alarms ns (rings (process_of m n) m)) (less-rings (process_of m n) m)

pub less-ticked : (m : Machine) → Less m (ticked m)
unfolding ticked each
less-ticked m = less-alarms (pids m.procs) _

-- ---- calls

free_own : (m : Machine) → Free m → (o : Outcome Process) → Leaves Free (own m o)
free_own m y (refused r) = tt
free_own m y (answered k d3 a0 p) = fewer-free (less-put p m) y
free_own m y (when b r o) = λ _. free_own m y o
free_own m y (either b x z) = (λ _. free_own m y x, λ _. free_own m y z)

module _ (p : Process) (e : Event) (m : Machine) (y : Free m) where
  free-lock : Leaves Free (do_lock p e m)
  unfolding do_lock lock_row queued appended put
  free-lock =
      λ _ _ _ h _.
      let z = free-end m.rows _ (and-off _ _ h) y in
      (λ _. z, λ _. z)

  free-call : (c : Call) → Leaves Free (do_call c p e m)
  unfolding do_call send_kill outlived do_fshell born do_exit do_unlock unlock_row rows_left without_twin
  free-call (Own c) = free_own m y (own_call c p e)
  free-call Lock = free-lock
  free-call Unlock = λ _ _. fewer-free (fewer-keep _ m.rows) y
  free-call Kill = λ _ _ _. let z = fewer-free (less-arrives e.d2 e.d3 m) y in (λ _. z, λ _. z)
  free-call Exit = λ _. fewer-free (less-ends p.pid m) y
  free-call FShell = λ _ _. y
  free-call Indirect = tt

  free-class : (c : Class) → Leaves Free (of_class c p e m)
  unfolding of_class
  free-class (Modelled c) = free-call c
  free-class NotModelled = tt
  free-class BadCall = tt

pub free_stays : (e : Event) (m : Machine) → Free m → Leaves Free (outcome e m)
unfolding outcome of_caller called
free_stays e m y =
    let p = process_of m e.caller in
    λ _. (
      λ _. fewer-free (less-ticked m) y,
      λ _ _ _. (λ _ _. free-class p e m y _, λ _. free_own m y (either (eqb e.kind 3) (taken p) (reported p))),
    )
