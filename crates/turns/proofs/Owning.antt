-- A call that touches its caller alone, a take and a report keep the caller's PID, so they are settled in its place. Assumes nothing.
use Prim.Native.Nat.{ℕ}
use mathlib.Core.Path.{◌≡◌, refl}
use mathlib.Core.Bool.{true, false}
use mathlib.Core.List.{List}
use Rattle.rules.specs.Outcome.{Outcome, refused, answered, when, either, own}
use Rattle.rules.specs.Signals.{takes, taken}
use Rattle.rules.specs.Calls.{get_id, set_id, set_prior, set_signal, do_sleep, own_call}
use Rattle.rules.specs.Step.{reported}
use Rattle.rules.specs.declared.state.Process.{Process}
use Rattle.rules.specs.declared.state.Event.{Event}
use Rattle.rules.specs.declared.calls.OwnCall.{OwnCall}
use Rattle.rules.specs.declared.calls.OwnCall.TheVariants.{GetUser, SetUser, GetGroup, SetGroup, GetPrior, SetPrior, GetProc, Signal, Sleep, Alarm, Pause}
use Rattle.rules.proofs.Walk.{Leaves}
use Rattle.places.specs.Places.{Calls, caller, machine}
use Rattle.places.specs.Settled.{Does, Settled, process_after}
use Rattle.places.proofs.Settling.{does-settled}

-- what the process has, and every process that is left, has the one after
leaves_after : (P : Process → Type 0) (p : Process) (x : Outcome Process) → P p → Leaves P x → P (process_after p x)
leaves_after P p (refused r) h g = h
leaves_after P p (answered k d3 a0 q) h g = g
leaves_after P p (when true r x) h g = h
leaves_after P p (when false r x) h g = leaves_after P p x h (g refl)
leaves_after P p (either true x y) h g = leaves_after P p x h (g.0 refl)
leaves_after P p (either false x y) h g = leaves_after P p y h (g.1 refl)

own-pids : (c : OwnCall) (p : Process) (e : Event) → Leaves (λ q. q.pid ≡ p.pid) (own_call c p e)
unfolding own_call get_id set_id set_prior set_signal do_sleep
own-pids GetUser p e = λ _. refl
own-pids SetUser p e = λ _ _. refl
own-pids GetGroup p e = λ _. refl
own-pids SetGroup p e = λ _ _. refl
own-pids GetPrior p e = refl
own-pids SetPrior p e = λ _ _. refl
own-pids GetProc p e = refl
own-pids Signal p e = λ _. refl
own-pids Sleep p e = (λ _. refl, λ _. refl)
own-pids Alarm p e = refl
own-pids Pause p e = refl

taken-pids : (p : Process) → Leaves (λ q. q.pid ≡ p.pid) (taken p)
unfolding taken takes
taken-pids p = (λ _. refl, λ _. refl)

reported-pids : (p : Process) → Leaves (λ q. q.pid ≡ p.pid) (reported p)
unfolding reported
reported-pids p = refl

kept : (p : Process) (x : Outcome Process) → Leaves (λ q. q.pid ≡ p.pid) x → (process_after p x).pid ≡ p.pid
kept p x g = leaves_after (λ q. q.pid ≡ p.pid) p x refl g

module _ {m t : List ℕ} {i : ℕ} (c : Calls m t i) where
  pub call_settled : {out v : List ℕ} (o : OwnCall) (e : Event) → Does (λ p. own_call o p e) m i out v → Settled (machine m t) (own (machine m t) (own_call o (caller m t i) e)) out v t
  call_settled o e d = does-settled c (λ p. own_call o p e) (kept (caller m t i) (own_call o (caller m t i) e) (own-pids o (caller m t i) e)) d

  pub take-settled : {out v : List ℕ} → Does taken m i out v → Settled (machine m t) (own (machine m t) (taken (caller m t i))) out v t
  take-settled d = does-settled c taken (kept (caller m t i) (taken (caller m t i)) (taken-pids (caller m t i))) d

  pub report-settled : {out v : List ℕ} → Does reported m i out v → Settled (machine m t) (own (machine m t) (reported (caller m t i))) out v t
  report-settled d = does-settled c reported (kept (caller m t i) (reported (caller m t i)) (reported-pids (caller m t i))) d
