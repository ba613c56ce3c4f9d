-- Which states are sound, fact by fact. Assumes nothing.
use Rattle.std.specs.Prelude.{ℕ, suc, ◌+◌, ◌-◌, Bool, true, false, cond, not, ◌&&◌, ◌||◌, List, [], ◌∷◌, length, drop, get_or, eqb, leb, ltb}
use Rattle.locks.specs.Lists.{all, between, bit, is_zero, zeros}
use Rattle.locks.specs.Rows.{waiting_of, zero_row, sound_row, apart}
use Rattle.locks.specs.declared.rows.Row.{Row}
use Rattle.rules.specs.State.{Machine, view, pids, abort, ignore, awake, for_lock, for_time, by_signal, by_time}
use Rattle.rules.specs.Calls.{in_priority}
use Rattle.rules.specs.declared.state.Ids.{Ids}
use Rattle.rules.specs.declared.state.Signals.{Signals}
use Rattle.rules.specs.declared.state.Rest.{Rest}
use Rattle.rules.specs.declared.state.Process.{Process}
use Rattle.rules.specs.declared.state.State.{State}

-- ---- "unused places are zero"

abbrev pub zero_ids : Ids → Bool
zero_ids i = is_zero i.effective && is_zero i.login && is_zero i.program

abbrev pub zero_signals : Signals → Bool
zero_signals g = zeros 7 g.reactions && is_zero g.pending && zeros 7 g.traps

abbrev pub zero_rest : Rest → Bool
zero_rest r = is_zero r.sleep && is_zero r.seconds && is_zero r.wake && is_zero r.left

unfoldable pub zero_process : Process → Bool
zero_process p =
    is_zero p.pid && zero_ids p.user && zero_ids p.group && is_zero p.priority && zero_signals p.signals
    && is_zero p.alarm && zero_rest p.rest

-- ---- PIDs

-- the numbers are at least `low`, ascend, and lie below `next`
unfoldable pub ascend : ℕ → List ℕ → ℕ → Bool
ascend low [] next = leb low next
ascend low (n ∷ ns) next = leb low n && ascend (n + 1) ns next

-- "PIDs ascend from 1 and lie below the next PID, which is at most 65,536"
unfoldable pub pids_fit : List ℕ → ℕ → Bool
pids_fit [] next = false
pids_fit (n ∷ ns) next = eqb n 1 && ascend 2 ns next && leb next 65536

-- ---- one process

-- "sleep kinds .. are those listed", "timed sleepers have at least one second left"; the seconds of another are unused
unfoldable pub sleep_fits : ℕ → ℕ → Bool
sleep_fits sleep seconds = leb sleep for_time && cond (eqb sleep for_time) (leb 1 seconds) (is_zero seconds)

-- "wake reasons are those listed"; the seconds left at another wake than by a signal are unused
unfoldable pub wake_fits : ℕ → ℕ → Bool
wake_fits wake left = leb wake by_time && (eqb wake by_signal || is_zero left)

-- "sleepers have no trap pending"
unfoldable pub quiet : ℕ → ℕ → Bool
quiet sleep pending = eqb sleep awake || is_zero pending

-- "one not pending has address 0", from place i on
unfoldable pub addressed : ℕ → ℕ → List ℕ → Bool
addressed pending i [] = true
addressed pending i (a ∷ traps) = (bit i pending || is_zero a) && addressed pending (suc i) traps

-- "pending traps are of signals 1, 2, 4 to 7, and one not pending has address 0"
unfoldable pub traps_fit : ℕ → List ℕ → Bool
traps_fit pending traps = ltb pending 128 && not (bit 2 pending) && addressed pending 0 traps

-- "kill reactions are abort and process 1's others ignore"
unfoldable pub reactions_fit : ℕ → List ℕ → Bool
reactions_fit pid reactions =
    eqb (get_or reactions 2 abort) abort
    && (not (eqb pid 1) || all (λ s. eqb (get_or reactions (s - 1) abort) ignore) (1 ∷ 2 ∷ 4 ∷ 5 ∷ 6 ∷ 7 ∷ []))

-- "a process sleeps for a lock exactly when it owns one row not held, and no process owns two such"
unfoldable pub lock_fits : List Row → ℕ → ℕ → Bool
lock_fits rows pid sleep = eqb (length (waiting_of pid rows)) (cond (eqb sleep for_lock) 1 0)

-- what concerns the process alone; and "priorities lie in -40..40"
abbrev pub sound_alone : Process → Bool
sound_alone p =
    sleep_fits p.rest.sleep p.rest.seconds && wake_fits p.rest.wake p.rest.left
    && quiet p.rest.sleep p.signals.pending && traps_fit p.signals.pending p.signals.traps
    && in_priority p.priority && reactions_fit p.pid p.signals.reactions

unfoldable pub sound_process : List Row → Process → Bool
sound_process rows p = sound_alone p && lock_fits rows p.pid p.rest.sleep

-- ---- the state

unfoldable pub sound_machine : Machine → Bool
sound_machine m =
    pids_fit (pids m.procs) m.next && all (sound_row (pids m.procs)) m.rows && apart m.rows
    && all (sound_process m.rows) m.procs

-- "Counts of processes and rows .. lie in the ranges above"; "Nothing else is tested."
unfoldable pub sound : State → Bool
sound s =
    between 1 16 s.live && leb s.table.used 32 && all zero_process (drop s.live s.procs)
    && all zero_row (drop s.table.used s.table.rows) && sound_machine (view s)
