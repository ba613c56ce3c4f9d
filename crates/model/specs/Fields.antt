-- A process by the numbers of its place, one by one; and a row by those of its cell. Assumes nothing.
use Rattle.std.specs.Prelude.{ℕ, ◌+◌, ◌*◌, ◌%◌, ◌<◌, ◌≡◌, true, List, [], ◌∷◌, ◌++◌, leb, get_or}
use Rattle.locks.specs.Lists.{all}
use Rattle.locks.specs.Words.{digits}
use Rattle.locks.specs.declared.rows.Row.{Row}
use Rattle.rules.specs.State.{process}
use Rattle.rules.specs.declared.state.Answer.{Answer}
use Rattle.rules.specs.declared.state.Ids.{Ids}
use Rattle.rules.specs.declared.state.Process.{Process}
use Rattle.rules.specs.declared.state.Rest.{Rest}
use Rattle.locks.specs.Cells.{CELL, HIGH, KIND, LOW, OWNER, SHARED}
use Rattle.places.specs.Places.{ALARM, GROUP, LEFT, PENDING, PID, PLACE, PRIORITY, REACTIONS, SECONDS, SLEEP, TRAPS, USER, WAKE, laid_procs, whole}

-- ---- what is stored, each at a place

abbrev pub three_at : ℕ → Ids → List (ℕ × ℕ)
three_at at i = (at, i.effective) ∷ (at + 1, i.login) ∷ (at + 2, i.program) ∷ []

abbrev pub seven_at : ℕ → List ℕ → List (ℕ × ℕ)
seven_at at xs =
    (at, get_or xs 0 0) ∷ (at + 1, get_or xs 1 0) ∷ (at + 2, get_or xs 2 0) ∷ (at + 3, get_or xs 3 0) ∷ (at + 4, get_or xs 4 0)
    ∷ (at + 5, get_or xs 5 0) ∷ (at + 6, get_or xs 6 0) ∷ []

abbrev pub plain_at : Process → List (ℕ × ℕ)
plain_at p =
    (PID, p.pid) ∷ (PRIORITY, p.priority) ∷ (ALARM, p.alarm) ∷ (SLEEP, p.rest.sleep) ∷ (WAKE, p.rest.wake)
    ∷ (SECONDS, p.rest.seconds) ∷ (LEFT, p.rest.left) ∷ (PENDING, p.signals.pending) ∷ []

abbrev pub fields : Process → List (ℕ × ℕ)
fields p =
    plain_at p ++ three_at USER p.user ++ three_at GROUP p.group ++ seven_at REACTIONS p.signals.reactions
    ++ seven_at TRAPS p.signals.traps

-- ---- what is read

-- number k of place i
abbrev pub number_at : List ℕ → ℕ → ℕ → ℕ
number_at m i k = get_or m (i * PLACE + k) 0

abbrev pub ids_at : List ℕ → ℕ → ℕ → Ids
ids_at m i at = record { effective = number_at m i at; login = number_at m i (at + 1); program = number_at m i (at + 2) }

abbrev pub numbers_at : List ℕ → ℕ → ℕ → List ℕ
numbers_at m i at =
    number_at m i at ∷ number_at m i (at + 1) ∷ number_at m i (at + 2) ∷ number_at m i (at + 3) ∷ number_at m i (at + 4)
    ∷ number_at m i (at + 5) ∷ number_at m i (at + 6) ∷ []

abbrev pub rest_at : List ℕ → ℕ → Rest
rest_at m i = record { sleep = number_at m i SLEEP; wake = number_at m i WAKE; seconds = number_at m i SECONDS; left = number_at m i LEFT }

abbrev pub process_at : List ℕ → ℕ → Process
process_at m i =
    process (number_at m i PID) (ids_at m i USER) (ids_at m i GROUP) (number_at m i PRIORITY)
    (record { reactions = numbers_at m i REACTIONS; pending = number_at m i PENDING; traps = numbers_at m i TRAPS })
    (number_at m i ALARM) (rest_at m i)

-- their numbers fit where a state has them
pub record Slim (i : Ids) : Type 0 where
  pub effective : i.effective < 65536
  pub login : i.login < 65536
  pub program : i.program < 65536

pub record Narrow (p : Process) : Type 0 where
  pub pid : p.pid < 65536
  pub user : Slim p.user
  pub group : Slim p.group
  pub sleep : p.rest.sleep < 256
  pub wake : p.rest.wake < 256
  pub pending : p.signals.pending < 256

abbrev pub row_at : List ℕ → ℕ → Row
row_at t i =
    record {
      owner = get_or t (i * CELL + OWNER) 0;
      shared = leb SHARED (get_or t (i * CELL + KIND) 0);
      len = get_or t (i * CELL + KIND) 0 % SHARED;
      bytes = digits 8 (get_or t (i * CELL + LOW) 0) ++ digits 8 (get_or t (i * CELL + HIGH) 0);
    }

-- ---- processes laid out, before the counts

pub record Unnumbered (m : List ℕ) (procs : List Process) : Type 0 where
  pub is : m ≡ laid_procs procs ++ 0 ∷ 0 ∷ 0 ∷ []
  pub whole : all whole procs ≡ true

-- ---- answers

-- the fields of an answer fit where an answer has them
pub record Small (a : Answer) : Type 0 where
  pub kind : a.kind < 256
  pub number : a.number < 256
  pub woken : a.woken < 65536
  pub ended : a.ended < 65536
