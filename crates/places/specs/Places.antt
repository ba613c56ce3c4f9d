-- Processes and counts in their array of numbers; with the rows in theirs, a machine. Assumes nothing.
use Rattle.std.specs.Prelude.{ℕ, suc, ◌≤◌, ◌<◌, ◌≡◌, Bool, true, false, cond, not, ◌&&◌, List, [], ◌∷◌, ◌++◌, eqb, ltb, length, get_or, set, drop}
use Rattle.locks.specs.Lists.{padded, all}
use Rattle.locks.specs.declared.rows.Row.{Row}
use Rattle.rules.specs.State.{Machine, no_process, process, sleeps}
use Rattle.rules.specs.Sound.{sound_machine}
use Rattle.rules.specs.declared.state.Ids.{Ids}
use Rattle.rules.specs.declared.state.Process.{Process}
use Rattle.locks.specs.Pieces.{joined, parted, stores}
use Rattle.locks.specs.Cells.{Rows, rows_in}

-- ---- a process is a place of 28 numbers, by these names

abbrev pub PLACE : ℕ
PLACE = 28

abbrev pub PID : ℕ
PID = 0

-- the user ids, and the group ids: effective, login, program
abbrev pub USER : ℕ
USER = 1

abbrev pub GROUP : ℕ
GROUP = 4

abbrev pub PRIORITY : ℕ
PRIORITY = 7

abbrev pub ALARM : ℕ
ALARM = 8

abbrev pub SLEEP : ℕ
SLEEP = 9

abbrev pub WAKE : ℕ
WAKE = 10

abbrev pub SECONDS : ℕ
SECONDS = 11

abbrev pub LEFT : ℕ
LEFT = 12

abbrev pub PENDING : ℕ
PENDING = 13

-- the seven reactions, and the seven addresses of traps
abbrev pub REACTIONS : ℕ
REACTIONS = 14

abbrev pub TRAPS : ℕ
TRAPS = 21

-- "1 to 16 processes"
abbrev pub PLACES : ℕ
PLACES = 16

-- behind the places: how many processes live, how many rows are used, and the next PID
abbrev pub LIVE : ℕ
LIVE = 448

abbrev pub USED : ℕ
USED = 449

abbrev pub NEXT : ℕ
NEXT = 450

abbrev pub NUMBERS : ℕ
NUMBERS = 451

-- "0 to 32 lock rows"
abbrev pub ROWS : ℕ
ROWS = 32

abbrev pub seven : List ℕ → List ℕ
seven xs = get_or xs 0 0 ∷ get_or xs 1 0 ∷ get_or xs 2 0 ∷ get_or xs 3 0 ∷ get_or xs 4 0 ∷ get_or xs 5 0 ∷ get_or xs 6 0 ∷ []

unfoldable pub numbers : Process → List ℕ
numbers p =
    p.pid ∷ p.user.effective ∷ p.user.login ∷ p.user.program ∷ p.group.effective ∷ p.group.login
    ∷ p.group.program ∷ p.priority ∷ p.alarm ∷ p.rest.sleep ∷ p.rest.wake ∷ p.rest.seconds ∷ p.rest.left
    ∷ p.signals.pending ∷ seven p.signals.reactions ++ seven p.signals.traps

abbrev pub ids_in : List ℕ → ℕ → Ids
ids_in m k = record { effective = get_or (drop k m) 0 0; login = get_or (drop k m) 1 0; program = get_or (drop k m) 2 0 }

unfoldable pub process_in : List ℕ → Process
process_in m =
    process (get_or m PID 0) (ids_in m USER) (ids_in m GROUP) (get_or m PRIORITY 0)
    (record { reactions = seven (drop REACTIONS m); pending = get_or m PENDING 0; traps = seven (drop TRAPS m) })
    (get_or m ALARM 0)
    (record { sleep = get_or m SLEEP 0; wake = get_or m WAKE 0; seconds = get_or m SECONDS 0; left = get_or m LEFT 0 })

-- ids of "16 bits each"
abbrev pub small_ids : Ids → Bool
small_ids i = ltb i.effective 65536 && ltb i.login 65536 && ltb i.program 65536

-- a process that its numbers show whole: seven reactions and seven addresses, and ids of 16 bits
unfoldable pub whole : Process → Bool
whole p =
    eqb (length p.signals.reactions) 7 && eqb (length p.signals.traps) 7 && (small_ids p.user && small_ids p.group)

-- ---- the processes one after another; unused places are zero

unfoldable pub laid_procs : List Process → List ℕ
laid_procs procs = joined numbers (padded PLACES no_process procs)

unfoldable pub procs_in : List ℕ → List Process
procs_in m = parted process_in PLACE (get_or m LIVE 0) m

-- m is these processes laid out, and the counts
pub record Procs (m : List ℕ) (procs : List Process) (used next : ℕ) : Type 0 where
  pub is : m ≡ laid_procs procs ++ length procs ∷ used ∷ next ∷ []
  pub few : length procs ≤ PLACES
  pub whole : all whole procs ≡ true

-- ---- the machine

-- m and t are s laid out
pub record Lays (m t : List ℕ) (s : Machine) : Type 0 where
  pub procs : Procs m s.procs (length s.rows) s.next
  pub rows : Rows t s.rows
  pub used : length s.rows ≤ ROWS

-- the machine that the arrays show
unfoldable pub machine : List ℕ → List ℕ → Machine
machine m t = record { procs = procs_in m; rows = rows_in t (get_or m USED 0); next = get_or m NEXT 0 }

-- the arrays are a machine laid out: their own
pub record Housed (m : List ℕ) : Type 0 where
  pub procs : Procs m (procs_in m) (get_or m USED 0) (get_or m NEXT 0)
  pub live : get_or m LIVE 0 ≤ PLACES

pub record Laid (m t : List ℕ) : Type 0 where
  pub lays : Lays m t (machine m t)
  pub live : get_or m LIVE 0 ≤ PLACES
  pub used : get_or m USED 0 ≤ ROWS

-- the process at place i
abbrev pub caller : List ℕ → List ℕ → ℕ → Process
caller m t i = get_or (machine m t).procs i no_process

-- a sound machine, whose process at place i is awake
pub record Calls (m t : List ℕ) (i : ℕ) : Type 0 where
  pub laid : Laid m t
  pub sound : sound_machine (machine m t) ≡ true
  pub stands : i < get_or m LIVE 0
  pub awake : sleeps (caller m t i) ≡ false

-- other rows
abbrev pub with_rows : List Row → Machine → Machine
with_rows rows s = record { procs = s.procs; rows = rows; next = s.next }

-- the place of the first n, or their count
unfoldable pub place_of : ℕ → List ℕ → ℕ
place_of n [] = 0
place_of n (k ∷ ns) = cond (eqb k n) 0 (suc (place_of n ns))

-- asleep, and awake as f has changed it
abbrev pub wakes_by : (Process → Process) → Process → Bool
wakes_by f p = sleeps p && not (sleeps (f p))

-- ---- one process changed in its place: f of the process at place i

pub record Turns (f : Process → Process) (m : List ℕ) (i : ℕ) (after : List ℕ) : Type 0 where
  pub is : {ps : List Process} {used next : ℕ} → Procs m ps used next → i < length ps → Procs after (set ps i (f (get_or ps i no_process))) used next

-- a sleeper woken, by stores
abbrev pub waked : List ℕ → ℕ → ℕ → ℕ → List ℕ
waked m i reason left = stores PLACE m i ((SLEEP, 0) ∷ (WAKE, reason) ∷ (SECONDS, 0) ∷ (LEFT, left) ∷ [])
