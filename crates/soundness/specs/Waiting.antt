-- The rows that wait, found once for all processes. Assumes nothing.
use Rattle.std.specs.Prelude.{ℕ, ◌≡◌, Bool, true, false, cond, ◌&&◌, List, Option, None, Some, eqb, length, take}
use Rattle.std.specs.List.{count_by}
use Rattle.locks.specs.Lists.{all}
use Rattle.locks.specs.Rows.{waiting_of, sound_row, apart}
use Rattle.locks.specs.declared.rows.Row.{Row}
use Rattle.rules.specs.State.{for_lock}
use Rattle.rules.specs.Sound.{sound_alone}
use Rattle.rules.specs.declared.state.Process.{Process}
use Rattle.soundness.specs.declared.waiters.Waiters.{Waiters}

-- ---- rows

abbrev pub owners_in : Waiters → List ℕ
owners_in w = take w.count w.owners

-- how often that PID stands there
abbrev pub count_of : ℕ → List ℕ → ℕ
count_of n owners = count_by (λ x. eqb x n) owners

-- each process stands there as often as it has rows that wait
pub record Waiting (live : List ℕ) (rows : List Row) (owners : List ℕ) : Type 0 where
  pub fit : (all (sound_row live) rows && apart rows) ≡ true
  pub them : (n : ℕ) → count_of n owners ≡ length (waiting_of n rows)

-- None where a row is not sound or has a twin
abbrev pub AreFound : List ℕ → List Row → Option Waiters → Type 0
AreFound live rows None = (all (sound_row live) rows && apart rows) ≡ false
AreFound live rows (Some w) = Waiting live rows (owners_in w)

-- ---- processes

-- a process of which so many rows wait is sound
unfoldable pub sound_waiting : ℕ → Process → Bool
sound_waiting n p = sound_alone p && eqb n (cond (eqb p.rest.sleep for_lock) 1 0)
