-- One event. Assumes nothing.
use Rattle.std.specs.Prelude.{ℕ, true, false, not, ◌&&◌, eqb}
use Rattle.locks.specs.Lists.{mask, between, is_zero}
use Rattle.rules.specs.State.{Machine, view, laid, lives, process_of, sleeps}
use Rattle.rules.specs.Outcome.{kind_of, done, refusal, badstate, badcaller, asleep, trap, badcall, Outcome, refused, answered, when, either, own}
use Rattle.rules.specs.Signals.{taken}
use Rattle.rules.specs.Clock.{ticked}
use Rattle.rules.specs.Calls.{called}
use Rattle.rules.specs.Sound.{sound}
use Rattle.rules.specs.declared.state.Process.{Process}
use Rattle.rules.specs.declared.state.State.{State}
use Rattle.rules.specs.declared.state.Event.{Event}
use Rattle.rules.specs.declared.state.Stepped.{Stepped}

-- "A0: 0 never, 1 granted, 2 signal, 3 time. D3: the seconds that were left .. A report clears nothing."
unfoldable pub reported : Process → Outcome Process
reported p = answered done p.rest.left p.rest.wake p

-- "1 call, .. 3 take (the next trap), 4 wake report" of a live process that is awake; "trap: kind 1 and the caller has a trap pending"
unfoldable pub of_caller : Process → Event → Machine → Outcome Machine
of_caller p e m =
    either (eqb e.kind 1)
    (when (not (is_zero p.signals.pending)) trap (called p e m))
    (own m (either (eqb e.kind 3) (taken p) (reported p)))

-- "Order: .. event kind; badcaller; asleep; trap; call number; arguments; then the call's own checks". "A tick ignores the caller."
unfoldable pub outcome : Event → Machine → Outcome Machine
outcome e m =
    when (not (between 1 4 e.kind)) badcall
    (either (eqb e.kind 2) (answered done 0 0 (ticked m))
    (when (not (lives m e.caller)) badcaller
    (when (sleeps (process_of m e.caller)) asleep
    (of_caller (process_of m e.caller) e m))))

-- "woken mask": asleep before the event, live and awake after it. "Mask bit i is the process at position i before the event. One that wakes and ends in the same event is only in the ended mask."
unfoldable pub woken_mask : Machine → Machine → ℕ
woken_mask m after = mask (λ p. sleeps p && lives after p.pid && not (sleeps (process_of after p.pid))) m.procs

-- "ended mask": live before the event, not after it
unfoldable pub ended_mask : Machine → Machine → ℕ
ended_mask m after = mask (λ p. not (lives after p.pid)) m.procs

-- "A refused event returns the state it was given"
unfoldable pub settled : State → Outcome Machine → Stepped
settled s (refused r) = record { answer = refusal r; state = s }
settled s (answered k d3 a0 m) =
    record {
      answer =
          record { kind = kind_of k; number = 0; woken = woken_mask (view s) m; ended = ended_mask (view s) m; d3 = d3; a0 = a0 };
      state = laid m;
    }
settled s (when true r o) = record { answer = refusal r; state = s }
settled s (when false r o) = settled s o
settled s (either true x y) = settled s x
settled s (either false x y) = settled s y

-- "Order: badstate; .."
unfoldable pub step_of : State → Event → Stepped
step_of s e = settled s (when (not (sound s)) badstate (outcome e (view s)))
