-- The processes before an event, as they were noted. Assumes nothing.
use Rattle.std.specs.Prelude.{ℕ, ◌<◌, ◌≡◌, Bool, not, ◌&&◌, List, eqb, ltb, length, get_or}
use Rattle.rules.specs.State.{no_process, sleeps}
use Rattle.rules.specs.declared.state.Process.{Process}
use Rattle.signals.specs.declared.masks.Past.{Past}
use Rattle.signals.specs.declared.masks.Before.{Before}

abbrev pub no_past : Past
no_past = record { pid = 0; sleep = 0 }

-- PID and sleep of each, by its place
pub record Noted (ps : List Process) (b : Before) : Type 0 where
  pub live : b.live ≡ length ps
  pub pid : (i : ℕ) → i < length ps → (get_or b.processes i no_past).pid ≡ (get_or ps i no_process).pid
  pub sleep : (i : ℕ) → i < length ps → (get_or b.processes i no_past).sleep ≡ (get_or ps i no_process).rest.sleep

-- asleep so before the event, and at place k it lives and is awake
abbrev pub up_at : List Process → ℕ → ℕ → Bool
up_at ps k sleep = not (eqb sleep 0) && ltb k (length ps) && not (sleeps (get_or ps k no_process))
