-- Who wakes when rows have gone. Assumes nothing.
use Rattle.std.specs.Prelude.{ℕ, ◌<◌, ◌≡◌, Bool, ◌&&◌, List, eqb, length, map, get_or}
use Rattle.locks.specs.Lists.{is_zero, mask}
use Rattle.locks.specs.Rows.{waiting_of}
use Rattle.locks.specs.declared.rows.Row.{Row}
use Rattle.rules.specs.State.{Machine, for_lock, granted, rows_left}
use Rattle.rules.specs.declared.state.Process.{Process}
use Rattle.locks.specs.declared.rows.Part.{Part}
use Rattle.locks.specs.declared.cells.Cell.{Cell}
use Rattle.locks.specs.Cells.{Names, staying}
use Rattle.places.specs.declared.arrays.Arrays.{Arrays}
use Rattle.places.specs.Settled.{Show}
use Rattle.places.specs.Places.{USED, NEXT, Lays, Procs, machine, procs_in, wakes_by}

-- a lock sleeper none of whose rows waits
abbrev pub is_granted : List Row → Process → Bool
is_granted rows p = eqb p.rest.sleep for_lock && is_zero (length (waiting_of p.pid rows))

-- f of each process, and the mask of those who wake
pub record Sweeps (f : Process → Process) (m after : List ℕ) (w : ℕ) : Type 0 where
  pub procs : Procs after (map f (procs_in m)) (get_or m USED 0) (get_or m NEXT 0)
  pub woken : w ≡ mask (wakes_by f) (procs_in m)
  pub few : w < 65536

-- the rows are as t has them: who waits no longer wakes
pub record Granted (m t after : List ℕ) (w : ℕ) : Type 0 where
  pub lays : Lays after t (rows_left (machine m t).rows (machine m t))
  pub woken : w ≡ mask (wakes_by (granted (machine m t).rows)) (machine m t).procs
  pub few : w < 65536

-- c tells what must be known of some request to take out that part of its owner's rows
pub record Named (part : Part) (c : Cell) : Type 0 where
  pub row : Row
  pub names : Names part c row

-- that part of the rows of r's owner has gone from s: who waits no longer wakes, and w is the mask of those
pub record Released (part : Part) (r : Row) (s : Machine) (after : Arrays) (w : ℕ) : Type 0 where
  pub lays : Show after (rows_left (staying part r s.rows) s)
  pub woken : w ≡ mask (wakes_by (granted (staying part r s.rows))) s.procs
