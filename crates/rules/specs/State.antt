-- The modelled system as the rules speak of it. What stands between quotation marks, here and in the other files, is document 01's. Assumes nothing.
use Rattle.std.specs.Prelude.{ℕ, ◌-◌, Bool, cond, not, ◌&&◌, List, [], ◌∷◌, map, length, take, replicate, get_or, set, eqb}
use Rattle.locks.specs.Lists.{padded, member, is_zero}
use Rattle.locks.specs.Rows.{rows_of, laid_rows, waiting_of}
use Rattle.locks.specs.declared.rows.Row.{Row}
use Rattle.rules.specs.declared.state.Ids.{Ids}
use Rattle.rules.specs.declared.state.Signals.{Signals}
use Rattle.rules.specs.declared.state.Rest.{Rest}
use Rattle.rules.specs.declared.state.Process.{Process}
use Rattle.rules.specs.declared.state.State.{State}

-- ---- the numbers that stand for kinds

-- a reaction: "0 abort, 1 ignore, else trap there"
abbrev pub abort : ℕ
abort = 0

abbrev pub ignore : ℕ
ignore = 1

-- a sleep: "none, pause, lock, or timed with seconds left"
abbrev pub awake : ℕ
awake = 0

abbrev pub for_signal : ℕ
for_signal = 1

abbrev pub for_lock : ℕ
for_lock = 2

abbrev pub for_time : ℕ
for_time = 3

-- a last wake: "0 never, 1 granted, 2 signal, 3 time"
abbrev pub never : ℕ
never = 0

abbrev pub by_grant : ℕ
by_grant = 1

abbrev pub by_signal : ℕ
by_signal = 2

abbrev pub by_time : ℕ
by_time = 3

-- ---- processes

abbrev pub process : ℕ → Ids → Ids → ℕ → Signals → ℕ → Rest → Process
process pid user group priority signals alarm rest =
    record { pid = pid; user = user; group = group; priority = priority; signals = signals; alarm = alarm; rest = rest }

abbrev pub no_ids : Ids
no_ids = record { effective = 0; login = 0; program = 0 }

abbrev pub rested : Rest
rested = record { sleep = awake; seconds = 0; wake = never; left = 0 }

-- "awake, no rows, alarm, pending trap or last wake"
unfoldable pub new_process : ℕ → Ids → Ids → ℕ → List ℕ → Process
new_process pid user group priority reactions =
    process pid user group priority (record { reactions = reactions; pending = 0; traps = replicate 7 0 }) 0 rested

-- "Unused places are all zero."
unfoldable pub no_process : Process
unfolding new_process
no_process = new_process 0 no_ids no_ids 0 (replicate 7 abort)

-- ---- a process with one part changed

abbrev pub with_user : Ids → Process → Process
with_user i p = process p.pid i p.group p.priority p.signals p.alarm p.rest

abbrev pub with_group : Ids → Process → Process
with_group i p = process p.pid p.user i p.priority p.signals p.alarm p.rest

abbrev pub with_priority : ℕ → Process → Process
with_priority n p = process p.pid p.user p.group n p.signals p.alarm p.rest

abbrev pub with_signals : Signals → Process → Process
with_signals s p = process p.pid p.user p.group p.priority s p.alarm p.rest

abbrev pub with_alarm : ℕ → Process → Process
with_alarm n p = process p.pid p.user p.group p.priority p.signals n p.rest

abbrev pub with_rest : Rest → Process → Process
with_rest r p = process p.pid p.user p.group p.priority p.signals p.alarm r

-- the reaction to signal s
abbrev pub reaction_to : ℕ → Process → ℕ
reaction_to s p = get_or p.signals.reactions (s - 1) abort

abbrev pub with_reaction : ℕ → ℕ → Signals → Signals
with_reaction s a g = record { reactions = set g.reactions (s - 1) a; pending = g.pending; traps = g.traps }

-- these traps pending, and this address for the one of signal s
abbrev pub with_trap : ℕ → ℕ → ℕ → Signals → Signals
with_trap pending s a g = record { reactions = g.reactions; pending = pending; traps = set g.traps (s - 1) a }

-- falling asleep leaves the last wake as it was
abbrev pub asleep_for : ℕ → ℕ → Process → Process
asleep_for kind seconds p = with_rest (record { sleep = kind; seconds = seconds; wake = p.rest.wake; left = p.rest.left }) p

-- awake, for that reason, with the seconds that were left
abbrev pub woken_by : ℕ → ℕ → Process → Process
woken_by reason left p = with_rest (record { sleep = awake; seconds = 0; wake = reason; left = left }) p

-- "the caller sleeps"
abbrev pub sleeps : Process → Bool
sleeps p = not (eqb p.rest.sleep awake)

-- "Privileged means effective user id 0 (house rule)."
abbrev pub privileged : Process → Bool
privileged p = is_zero p.user.effective

-- ---- the machine: the state without its unused places

-- "1 to 16 processes in ascending PID order without gaps; 0 to 32 lock rows in order of arrival; the next PID"
pub record Machine : Type 0 where
  pub procs : List Process
  pub rows : List Row
  pub next : ℕ

-- the machine of a state, and the state of a machine: "Unused places are all zero."
unfoldable pub view : State → Machine
view s = record { procs = take s.live s.procs; rows = rows_of s.table; next = s.next }

unfoldable pub laid : Machine → State
laid m =
    record { procs = padded 16 no_process m.procs; live = length m.procs; table = laid_rows m.rows; next = m.next }

-- "Only process 1: ids 0, priority 0, every reaction ignore except kill (abort), awake, no alarm, no last wake. Next PID 2."
unfoldable pub fresh : Machine
fresh =
    record {
      procs = new_process 1 no_ids no_ids 0 (ignore ∷ ignore ∷ abort ∷ ignore ∷ ignore ∷ ignore ∷ ignore ∷ []) ∷ [];
      rows = [];
      next = 2;
    }

-- ---- the process of a PID

-- the process has that PID
abbrev pub has : ℕ → Process → Bool
has n p = eqb p.pid n

abbrev pub pids : List Process → List ℕ
pids ps = map (λ p. p.pid) ps

-- "live process": one of the machine
unfoldable pub lives : Machine → ℕ → Bool
lives m n = member n (pids m.procs)

-- the first process of that PID; where there is none, an unused place
unfoldable pub first_of : ℕ → List Process → Process
first_of n [] = no_process
first_of n (p ∷ ps) = cond (has n p) p (first_of n ps)

unfoldable pub process_of : Machine → ℕ → Process
process_of m n = first_of n m.procs

-- q in the place of the first process of its PID
unfoldable pub in_place : Process → List Process → List Process
in_place q [] = []
in_place q (p ∷ ps) = cond (has q.pid p) (q ∷ ps) (p ∷ in_place q ps)

unfoldable pub put : Process → Machine → Machine
put q m = record { procs = in_place q m.procs; rows = m.rows; next = m.next }

-- every process changed by f
unfoldable pub each : (Process → Process) → Machine → Machine
each f m = record { procs = map f m.procs; rows = m.rows; next = m.next }

-- ---- rows go

-- a lock sleeper none of whose rows waits wakes
unfoldable pub granted : List Row → Process → Process
granted rows p = cond (eqb p.rest.sleep for_lock && is_zero (length (waiting_of p.pid rows))) (woken_by by_grant 0 p) p

-- "When rows go, every row that becomes held wakes its owner in the same step." These rows are left.
unfoldable pub rows_left : List Row → Machine → Machine
rows_left rows m = record { procs = map (granted rows) m.procs; rows = rows; next = m.next }
