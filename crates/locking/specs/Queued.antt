-- A new row comes last: held, or it waits. Assumes nothing.
use Rattle.std.specs.Prelude.{ℕ, ◌≡◌, true, false, List, eqb, length, get_or}
use Rattle.locks.specs.declared.rows.Row.{Row}
use Rattle.chains.specs.Chains.{leads_back}
use Rattle.rules.specs.State.{Machine, for_lock, asleep_for, put}
use Rattle.rules.specs.Outcome.{Outcome, answered, deadlock, done, lcktable, now_asleep, when}
use Rattle.rules.specs.declared.outcome.Refusal.{Refusal}
use Rattle.rules.specs.Calls.{appended}
use Rattle.rules.specs.Sound.{sound_machine}
use Rattle.rules.specs.declared.state.Process.{Process}
use Rattle.places.specs.Places.{Laid, ROWS, USED, machine}

-- a sound machine of that many rows
pub record Fills (m t : List ℕ) (used : ℕ) : Type 0 where
  pub laid : Laid m t
  pub sound : sound_machine (machine m t) ≡ true
  pub count : used ≡ get_or m USED 0

-- no row is in its way
abbrev pub held_or_full : Row → Machine → Outcome Machine
held_or_full r s = when (eqb (length s.rows) ROWS) lcktable (answered done 0 0 (appended r s))

-- one is: p sleeps for it
abbrev pub waits_or_not : Process → Row → Machine → Outcome Machine
waits_or_not p r s =
    when (leads_back s.rows r) deadlock
    (when (eqb (length s.rows) ROWS) lcktable
    (answered now_asleep 0 0 (put (asleep_for for_lock 0 p) (appended r s))))

-- the checks of a new row r that waits behind these rows, in their order: it may
abbrev pub MayWait : List Row → Row → Type 0
MayWait rows r = (leads_back rows r ≡ false) × (length rows ≡ ROWS → ⊥)

-- it may not, and is refused so
pub data MayNot (rows : List Row) (r : Row) : Refusal → Type 0 where
  dead : leads_back rows r ≡ true → MayNot rows r deadlock
  full : leads_back rows r ≡ false → length rows ≡ ROWS → MayNot rows r lcktable
