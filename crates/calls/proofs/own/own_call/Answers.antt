-- `calls::own::own_call` meets its contract. Assumes nothing.
use Prim.Native.Nat.{ℕ}
use native.Mathlib.Omega.{arith}
use mathlib.Core.Path.{refl, sym, ap, ◌∙◌}
use Rattle.rules.specs.Calls.{own_call}
use Rattle.places.specs.Places.{PID, PRIORITY, numbers}
use Rattle.places.specs.Settled.{answer_of}
use Rattle.calls.proofs.Doing.{still, does}
use Rattle.calls.proofs.own.own_call.Goals as goal

pub returns-in-GetUser : goal.returns-in-GetUser
unfolding own_call
returns-in-GetUser c = λ e a. rw c.in-GetUser.is (c.get_id.ensures e a.is-d2)

pub returns-in-SetUser : goal.returns-in-SetUser
unfolding own_call
returns-in-SetUser c = λ e a. rw c.in-SetUser.is (c.set_id.ensures e a.is-d1 a.is-d2 a.is-d3)

pub returns-in-GetGroup : goal.returns-in-GetGroup
unfolding own_call
returns-in-GetGroup c = λ e a. rw c.in-GetGroup.is (c.get_id-in-GetGroup.ensures e a.is-d2)

pub returns-in-SetGroup : goal.returns-in-SetGroup
unfolding own_call
returns-in-SetGroup c = λ e a. rw c.in-SetGroup.is (c.set_id-in-SetGroup.ensures e a.is-d1 a.is-d2 a.is-d3)

pub returns-in-GetPrior : goal.returns-in-GetPrior
unfolding own_call numbers
returns-in-GetPrior c =
    λ e a.
    rw c.in-GetPrior.is
    (does (answer_of 0 0 c.of.result 0) still c.plain.ensures
    (λ p l. (refl, ap (λ (x : ℕ). answer_of 0 0 x 0) (sym (c.of.ensures ∙ l.get PRIORITY (omega arith))))))

pub returns-in-SetPrior : goal.returns-in-SetPrior
unfolding own_call
returns-in-SetPrior c = λ e a. rw c.in-SetPrior.is (c.set_prior.ensures e a.is-d3)

pub returns-in-GetProc : goal.returns-in-GetProc
unfolding own_call numbers
returns-in-GetProc c =
    λ e a.
    rw c.in-GetProc.is
    (does (answer_of 0 0 c.of-in-GetProc.result 0) still c.plain-in-GetProc.ensures
    (λ p l. (refl, ap (λ (x : ℕ). answer_of 0 0 x 0) (sym (c.of-in-GetProc.ensures ∙ l.get PID (omega arith))))))

pub returns-in-Signal : goal.returns-in-Signal
unfolding own_call
returns-in-Signal c = λ e a. rw c.in-Signal.is (c.set_signal.ensures e a.is-d2 a.is-a0)

pub returns-in-Sleep : goal.returns-in-Sleep
unfolding own_call
returns-in-Sleep c = λ e a. rw c.in-Sleep.is (c.do_sleep.ensures e a.is-d3)

pub returns-in-Alarm : goal.returns-in-Alarm
unfolding own_call
returns-in-Alarm c = λ e a. rw c.in-Alarm.is (c.set_alarm.ensures e a.is-d3)

pub returns-in-Pause : goal.returns-in-Pause
unfolding own_call
returns-in-Pause c = λ e a. rw c.in-Pause.is (c.do_pause.ensures e)
