-- States given by hand, each with its name: sound ones, odd ones among them, and states with one fact broken. Assumes nothing.
use Rattle.std.specs.Prelude.{ℕ, ◌-◌, ◌^◌, Bool, true, false, List, [], ◌∷◌, ◌++◌, map, length, replicate, set}
use Prim.Native.String.{String}
use Rattle.locks.specs.Lists.{padded}
use Rattle.locks.specs.declared.rows.Row.{Row}
use Rattle.rules.specs.State.{laid, fresh, abort, ignore, awake, for_signal, for_lock, for_time, never, by_grant, by_signal, by_time, no_ids, no_process, new_process, with_user, with_group, with_priority, with_signals, with_alarm, with_rest, process_of}
use Rattle.rules.specs.Script.{count, x, y, ab, abc, sixteen}
use Rattle.rules.specs.declared.state.Ids.{Ids}
use Rattle.rules.specs.declared.state.Process.{Process}
use Rattle.rules.specs.declared.state.State.{State}

-- a state and its name
infix 70 ◌is◌
abbrev ◌is◌ : String → State → String × State
name is s = (name, s)

-- ---- states of few processes

-- process 1
abbrev first : Process
first = process_of fresh 1

-- a process, awake, that aborts on every signal
abbrev plain : ℕ → Process
plain pid = new_process pid no_ids no_ids 0 (replicate 7 abort)

-- process 2
abbrev pub other : Process
other = plain 2

-- these processes, rows and next PID
abbrev state_of : List Process → List Row → ℕ → State
state_of ps rows next = laid (record { procs = ps; rows = rows; next = next })

-- process 1 and this one
abbrev pub two : Process → List Row → ℕ → State
two p rows next = state_of (first ∷ p ∷ []) rows next

-- process 1 and this process 2, with no row
abbrev pub with1 : Process → State
with1 p = two p [] 3

-- process 2 as it is, with these rows
abbrev rowed : List Row → State
rowed rows = two other rows 3

-- an unshared row of that owner and that length, and a shared one
abbrev row_of_length : ℕ → ℕ → List ℕ → Row
row_of_length owner n s = record { owner = owner; shared = false; len = n; bytes = padded 16 0 s }

abbrev owned : ℕ → List ℕ → Row
owned owner s = row_of_length owner (length s) s

abbrev shared_row : ℕ → List ℕ → Row
shared_row owner s = record { owner = owner; shared = true; len = length s; bytes = padded 16 0 s }

-- process 1 holds x, and process 2 waits for it
abbrev waiting : List Row
waiting = owned 1 x ∷ owned 2 x ∷ []

-- ---- process 2 with one part changed

-- kind, seconds, last wake, seconds left
abbrev resting : ℕ → ℕ → ℕ → ℕ → Process
resting sleep seconds wake left = with_rest (record { sleep = sleep; seconds = seconds; wake = wake; left = left }) other

abbrev pub signalled : List ℕ → ℕ → List ℕ → Process → Process
signalled reactions pending traps p = with_signals (record { reactions = reactions; pending = pending; traps = traps }) p

-- these reactions
abbrev reacting : List ℕ → Process
reacting reactions = signalled reactions 0 (replicate 7 0) other

-- these signals pending, with these addresses
abbrev trapping : ℕ → List ℕ → Process → Process
trapping pending traps p = signalled (replicate 7 abort) pending traps p

-- an address for signal s alone
abbrev only : ℕ → ℕ → List ℕ
only s a = set (replicate 7 0) (s - 1) a

-- all six ids
abbrev ids : ℕ → Ids
ids n = record { effective = n; login = n; program = n }

-- ---- states with a part changed

-- sixteen processes, and this count of them
abbrev crowd : ℕ → State
crowd live =
    record { procs = first ∷ map plain (count 2 15); live = live; table = (laid fresh).table; next = 17 }

-- process 1 with 32 rows, and this count of them
abbrev pile : ℕ → State
pile used =
    record { procs = (laid fresh).procs; live = 1; table = record { rows = map (λ n. owned 1 (n ∷ [])) (count 1 32); used = used }; next = 2 }

-- process 1 alone, with another reaction to signal s
abbrev hearing : ℕ → ℕ → State
hearing s a = state_of (new_process 1 no_ids no_ids 0 (set first.signals.reactions (s - 1) a) ∷ []) [] 2

-- the fresh state with that process in an unused place, or that row
abbrev unused_process : ℕ → Process → State
unused_process i p = record { procs = set (laid fresh).procs i p; live = 1; table = (laid fresh).table; next = 2 }

abbrev unused_row : ℕ → Row → State
unused_row i r =
    record { procs = (laid fresh).procs; live = 1; table = record { rows = set (laid fresh).table.rows i r; used = 0 }; next = 2 }

-- a row, or a process, of zeros but for one part
abbrev row : ℕ → Bool → ℕ → List ℕ → Row
row owner shared len bytes = record { owner = owner; shared = shared; len = len; bytes = bytes }

abbrev rest : ℕ → ℕ → ℕ → ℕ → Process
rest sleep seconds wake left = with_rest (record { sleep = sleep; seconds = seconds; wake = wake; left = left }) no_process

abbrev signals : List ℕ → ℕ → List ℕ → Process
signals reactions pending traps = signalled reactions pending traps no_process

abbrev id : ℕ → ℕ → ℕ → Ids
id effective login program = record { effective = effective; login = login; program = program }

-- ---- sound states, in which nobody wakes or ends at a tick

unfoldable pub sounds : List (String × State)
sounds =
    -- counts and lengths at their edges
    "a row" is rowed (owned 2 x ∷ [])
    ∷ "16 processes" is crowd 16
    ∷ "32 rows" is pile 32
    ∷ "a row of length 16" is rowed (owned 2 sixteen ∷ [])
    ∷ "a sequence of zero bytes" is rowed (owned 2 (0 ∷ 0 ∷ []) ∷ [])
    -- PIDs with gaps between, and the highest
    ∷ "PIDs with gaps" is state_of (first ∷ plain 7 ∷ plain 300 ∷ []) [] 301
    ∷ "the highest PID, and no next" is two (plain 65535) [] 65536
    ∷ "the next PID far above" is two other [] 65536
    -- rows of one owner, and rows of one sequence
    ∷ "one owner's sequences, one the beginning of the other" is rowed (owned 2 ab ∷ owned 2 abc ∷ [])
    ∷ "two owners share" is rowed (shared_row 1 x ∷ shared_row 2 x ∷ [])
    ∷ "two owners share, the second a sequence more" is rowed (shared_row 1 x ∷ owned 2 y ∷ shared_row 2 x ∷ [])
    -- each kind of sleep, and each last wake, with the seconds that it may have
    ∷ "asleep for a lock" is two (resting for_lock 0 never 0) waiting 3
    ∷ "in a pause" is with1 (resting for_signal 0 never 0)
    ∷ "a timed sleep of two seconds" is with1 (resting for_time 2 never 0)
    ∷ "a timed sleep, the longest" is with1 (resting for_time (2 ^ 32 - 1) never 0)
    ∷ "woken by a grant" is with1 (resting awake 0 by_grant 0)
    ∷ "woken by time" is with1 (resting awake 0 by_time 0)
    ∷ "woken by a signal, no second left" is with1 (resting awake 0 by_signal 0)
    ∷ "woken by a signal, the most seconds left" is with1 (resting awake 0 by_signal (2 ^ 32 - 1))
    ∷ "asleep for a lock, woken by a signal before" is two (resting for_lock 0 by_signal 9) waiting 3
    ∷ "in a pause, woken by a signal before" is with1 (resting for_signal 0 by_signal 9)
    ∷ "a timed sleep, woken by a signal before" is with1 (resting for_time 2 by_signal 9)
    -- traps: "Nothing else is tested", neither a pending trap's address nor its reaction
    ∷ "all six traps pending" is with1 (trapping 0b1111011 (11 ∷ 12 ∷ 0 ∷ 14 ∷ 15 ∷ 16 ∷ 17 ∷ []) other)
    ∷ "a trap pending at address 0" is with1 (trapping 0b1 (replicate 7 0) other)
    ∷ "a trap pending at address 1" is with1 (trapping 0b1 (only 1 1) other)
    ∷ "a trap pending at the highest address" is with1 (trapping 0b1000000 (only 7 (2 ^ 32 - 1)) other)
    ∷ "a trap pending and its signal ignored" is with1 (signalled (ignore ∷ replicate 6 abort) 0b1 (only 1 4096) other)
    ∷ "a trap pending and its signal trapped" is with1 (signalled (8192 ∷ replicate 6 abort) 0b1 (only 1 4096) other)
    -- "Nothing else is tested": reactions, alarms and ids
    ∷ "reactions at odd values" is with1 (reacting (2 ∷ 3 ∷ abort ∷ (2 ^ 32 - 1) ∷ 1 ∷ 65536 ∷ 255 ∷ []))
    ∷ "the longest alarm" is with1 (with_alarm (2 ^ 32 - 1) other)
    ∷ "process 1 with an alarm" is state_of (with_alarm 2 first ∷ []) [] 2
    ∷ "the highest ids" is with1 (with_group (ids 65535) (with_user (ids 65535) other))
    ∷ "process 1 with other ids" is state_of (with_group (ids 3) (with_user (ids 4) first) ∷ []) [] 2
    ∷ "process 1 in a pause, woken by time before" is state_of (with_rest (record { sleep = for_signal; seconds = 0; wake = by_time; left = 0 }) first ∷ []) [] 2
    ∷ "process 1 with a trap pending" is state_of (signalled first.signals.reactions 0b1 (only 1 4096) first ∷ []) [] 2
    ∷ "process 1 with a priority" is state_of (with_priority 7 first ∷ []) [] 2
    ∷ "priority 40" is with1 (with_priority 40 other)
    ∷ "priority -40" is with1 (with_priority (2 ^ 32 - 40) other)
    ∷ []

-- ---- states with one fact broken

unfoldable pub broken : List (String × State)
broken =
    -- counts of processes and rows, and lengths of sequences
    "no process" is state_of [] [] 2
    ∷ "17 processes" is crowd 17
    ∷ "more rows than places" is pile 33
    ∷ "a row of length 0" is rowed (row_of_length 2 0 [] ∷ [])
    ∷ "a row of length 17" is rowed (row_of_length 2 17 sixteen ∷ [])
    -- PIDs
    ∷ "PID 1 twice" is with1 (new_process 1 no_ids no_ids 0 first.signals.reactions)
    ∷ "another PID twice" is state_of (first ∷ other ∷ other ∷ []) [] 3
    ∷ "PIDs out of order" is state_of (first ∷ plain 3 ∷ plain 2 ∷ []) [] 4
    ∷ "PID 0 behind the others" is with1 (plain 0)
    ∷ "the next PID in use" is two other [] 2
    ∷ "the next PID below one in use" is two (plain 9) [] 3
    ∷ "the next PID too high" is two other [] 65537
    ∷ "the first PID not 1" is state_of (other ∷ []) [] 3
    -- a live owner
    ∷ "a row without a live owner" is two other (owned 3 x ∷ []) 4
    ∷ "a row of owner 0" is rowed (owned 0 x ∷ [])
    -- zeros after the length, wherever
    ∷ "a byte behind the length" is rowed (row_of_length 2 1 ab ∷ [])
    ∷ "a byte two behind the length" is rowed (row_of_length 2 1 (65 ∷ 0 ∷ 66 ∷ []) ∷ [])
    ∷ "the last byte, behind the length" is rowed (row_of_length 2 1 (65 ∷ replicate 14 0 ++ 66 ∷ []) ∷ [])
    ∷ "the last byte of 16, behind a length of 15" is rowed (row_of_length 2 15 sixteen ∷ [])
    -- no owner has two rows for one sequence
    ∷ "two rows for one sequence" is rowed (owned 2 x ∷ owned 2 x ∷ [])
    ∷ "two rows for one sequence, another between" is rowed (owned 2 x ∷ owned 2 y ∷ owned 2 x ∷ [])
    ∷ "two rows for one sequence, of both kinds" is rowed (shared_row 2 x ∷ owned 2 x ∷ [])
    ∷ "two shared rows for one sequence" is rowed (shared_row 2 x ∷ shared_row 2 x ∷ [])
    -- asleep for a lock exactly with one row not held
    ∷ "asleep for a lock with none waiting" is two (resting for_lock 0 never 0) (owned 2 x ∷ []) 3
    ∷ "asleep for a lock without a row" is with1 (resting for_lock 0 never 0)
    ∷ "a row waits and its owner is awake" is rowed waiting
    ∷ "a row waits and its owner pauses" is two (resting for_signal 0 never 0) waiting 3
    ∷ "a row waits in a timed sleep" is two (resting for_time 5 never 0) waiting 3
    ∷ "two rows of one owner wait" is two (resting for_lock 0 never 0) (waiting ++ owned 1 y ∷ owned 2 y ∷ []) 3
    -- a second left at least, and none in another sleep
    ∷ "a timed sleep with no second left" is with1 (resting for_time 0 never 0)
    ∷ "seconds and awake" is with1 (resting awake 1 never 0)
    ∷ "seconds in a pause" is with1 (resting for_signal 1 never 0)
    ∷ "seconds and asleep for a lock" is two (resting for_lock 1 never 0) waiting 3
    -- sleepers have no trap pending
    ∷ "in a pause with a trap pending" is with1 (trapping 0b1 (only 1 4096) (resting for_signal 0 never 0))
    ∷ "asleep for a lock with a trap pending" is two (trapping 0b10 (only 2 4096) (resting for_lock 0 never 0)) waiting 3
    ∷ "a timed sleep with a trap pending" is with1 (trapping 0b1000000 (only 7 4096) (resting for_time 5 never 0))
    -- pending traps
    ∷ "a trap of signal 3" is with1 (trapping 0b100 (only 3 4096) other)
    ∷ "a trap of signal 3 beside others" is with1 (trapping 0b1111111 (replicate 7 9) other)
    ∷ "a trap of no signal" is with1 (trapping 0b10000000 (replicate 7 0) other)
    -- sleep kinds and wake reasons
    ∷ "sleep kind 4" is with1 (resting 4 0 never 0)
    ∷ "wake reason 4" is with1 (resting awake 0 4 0)
    -- seconds left at another wake than by a signal
    ∷ "seconds left and never woken" is with1 (resting awake 0 never 1)
    ∷ "seconds left and woken by a grant" is with1 (resting awake 0 by_grant 1)
    ∷ "seconds left and woken by time" is with1 (resting awake 0 by_time 1)
    -- priorities
    ∷ "priority 41" is with1 (with_priority 41 other)
    ∷ "priority -41" is with1 (with_priority (2 ^ 32 - 41) other)
    -- kill's reaction
    ∷ "kill ignored" is with1 (reacting (abort ∷ abort ∷ ignore ∷ replicate 4 abort))
    ∷ "kill trapped" is with1 (reacting (abort ∷ abort ∷ 4096 ∷ replicate 4 abort))
    ∷ "kill ignored by process 1" is hearing 3 ignore
    ∷ "kill trapped by process 1" is hearing 3 4096
    -- an unused process, an unused row: in the first unused place, in the last, and in each of its parts
    ∷ "an unused process of PID 9" is unused_process 1 (plain 9)
    ∷ "an unused process, the last" is unused_process 15 (plain 9)
    ∷ "an unused process with user id" is unused_process 1 (with_user (id 1 0 0) no_process)
    ∷ "an unused process with login user id" is unused_process 1 (with_user (id 0 1 0) no_process)
    ∷ "an unused process with program user id" is unused_process 1 (with_user (id 0 0 1) no_process)
    ∷ "an unused process with group id" is unused_process 1 (with_group (id 1 0 0) no_process)
    ∷ "an unused process with login group id" is unused_process 1 (with_group (id 0 1 0) no_process)
    ∷ "an unused process with program group id" is unused_process 1 (with_group (id 0 0 1) no_process)
    ∷ "an unused process with priority" is unused_process 1 (with_priority 1 no_process)
    ∷ "an unused process with first reaction" is unused_process 1 (signals (only 1 1) 0 (replicate 7 0))
    ∷ "an unused process with last reaction" is unused_process 1 (signals (only 7 1) 0 (replicate 7 0))
    ∷ "an unused process with pending" is unused_process 1 (signals (replicate 7 0) 1 (replicate 7 0))
    ∷ "an unused process with first address" is unused_process 1 (signals (replicate 7 0) 0 (only 1 1))
    ∷ "an unused process with last address" is unused_process 1 (signals (replicate 7 0) 0 (only 7 1))
    ∷ "an unused process with alarm" is unused_process 1 (with_alarm 1 no_process)
    ∷ "an unused process with sleep" is unused_process 1 (rest 1 0 0 0)
    ∷ "an unused process with seconds" is unused_process 1 (rest 0 1 0 0)
    ∷ "an unused process with wake" is unused_process 1 (rest 0 0 1 0)
    ∷ "an unused process with left" is unused_process 1 (rest 0 0 0 1)
    ∷ "an unused row with owner" is unused_row 0 (row 1 false 0 (replicate 16 0))
    ∷ "an unused row with kind" is unused_row 0 (row 0 true 0 (replicate 16 0))
    ∷ "an unused row with length" is unused_row 0 (row 0 false 1 (replicate 16 0))
    ∷ "an unused row with first byte" is unused_row 0 (row 0 false 0 (1 ∷ replicate 15 0))
    ∷ "an unused row with last byte, the last row" is unused_row 31 (row 0 false 0 (replicate 15 0 ++ 1 ∷ []))
    -- process 1's other reactions
    ∷ "process 1 does not ignore 1" is hearing 1 abort
    ∷ "process 1 does not ignore 2" is hearing 2 abort
    ∷ "process 1 does not ignore 4" is hearing 4 abort
    ∷ "process 1 does not ignore 5" is hearing 5 abort
    ∷ "process 1 does not ignore 6" is hearing 6 abort
    ∷ "process 1 does not ignore 7" is hearing 7 abort
    ∷ "process 1 traps signal 1" is hearing 1 4096
    ∷ "process 1 traps signal 2" is hearing 2 4096
    ∷ "process 1 traps signal 4" is hearing 4 4096
    ∷ "process 1 traps signal 5" is hearing 5 4096
    ∷ "process 1 traps signal 6" is hearing 6 4096
    ∷ "process 1 traps signal 7" is hearing 7 4096
    -- addresses of traps that are not pending
    ∷ "an address and no trap of signal 1" is with1 (trapping 0 (only 1 4096) other)
    ∷ "an address and no trap of signal 2" is with1 (trapping 0 (only 2 4096) other)
    ∷ "an address and no trap of signal 3" is with1 (trapping 0 (only 3 4096) other)
    ∷ "an address and no trap of signal 4" is with1 (trapping 0 (only 4 4096) other)
    ∷ "an address and no trap of signal 5" is with1 (trapping 0 (only 5 4096) other)
    ∷ "an address and no trap of signal 6" is with1 (trapping 0 (only 6 4096) other)
    ∷ "an address and no trap of signal 7" is with1 (trapping 0 (only 7 4096) other)
    ∷ "an address of signal 2 beside a trap of signal 1" is with1 (trapping 0b1 (set (only 2 4096) 0 4096) other)
    ∷ "an address of signal 3 beside a trap of signal 1" is with1 (trapping 0b1 (set (only 3 4096) 0 4096) other)
    ∷ "an address of signal 4 beside a trap of signal 1" is with1 (trapping 0b1 (set (only 4 4096) 0 4096) other)
    ∷ "an address of signal 5 beside a trap of signal 1" is with1 (trapping 0b1 (set (only 5 4096) 0 4096) other)
    ∷ "an address of signal 6 beside a trap of signal 1" is with1 (trapping 0b1 (set (only 6 4096) 0 4096) other)
    ∷ "an address of signal 7 beside a trap of signal 1" is with1 (trapping 0b1 (set (only 7 4096) 0 4096) other)
    ∷ []
