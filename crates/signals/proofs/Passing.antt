-- A loop that changes each process in its place and marks nobody. Assumes nothing.
use Prim.Native.Nat.{ℕ, ◌+◌, ◌*◌, ◌≤◌, ◌<◌}
use mathlib.Core.Path.{◌≡◌, refl}
use mathlib.Core.Bool.{Bool, cond}
use mathlib.Core.List.{List, map}
use lib.ListN.{length, get_or}
use Rattle.rules.specs.State.{each, no_process}
use Rattle.rules.specs.declared.state.Process.{Process}
use Rattle.places.specs.Places.{wakes_by}
use Rattle.places.specs.Places.{LIVE, Laid, Lays, NEXT, Procs, Turns, USED, machine, procs_in}
use Rattle.places.proofs.Laying.{procs-used}
use Rattle.locking.proofs.Sweep.{Sweep, sweep, sweep-turn, swept}

-- a sweep whose mask the code does not keep
pub record Passing (f : Process → Process) (ps : List Process) (used next : ℕ) (m : List ℕ) (n i : ℕ) : Type 0 where
  pub w : ℕ
  pub bit : ℕ
  pub sweep : Sweep f ps used next m n w bit i

pub passing : (f : Process → Process) {m : List ℕ} {ps : List Process} {used next : ℕ} → Procs m ps used next → Passing f ps used next m (get_or m LIVE 0) 0
passing f l = record { w = 0; bit = 1; sweep = sweep f l }

module _ {f : Process → Process} {ps : List Process} {used next : ℕ} {m : List ℕ} {n i : ℕ} (k : Passing f ps used next m n i) where
  pub pass-turn : i < n → {u : List ℕ} {b : Bool} → Turns f m i u → ((qs : List Process) (x y : ℕ) → Procs m qs x y → i < length qs → b ≡ wakes_by f (get_or qs i no_process)) → Passing f ps used next u n (i + 1)
  pass-turn l {b = b} c h = record { w = k.w + cond b k.bit 0; bit = k.bit * 2; sweep = sweep-turn k.sweep l c refl refl h }

  pub passed : n ≤ i → Procs m (map f ps) used next
  passed h = (swept k.sweep h).0

-- each changed by itself, and the rows as they were
pub each-lays : {m t : List ℕ} → Laid m t → (f : Process → Process) {u : List ℕ} → Procs u (map f (procs_in m)) (get_or m USED 0) (get_or m NEXT 0) → Lays u t (each f (machine m t))
unfolding each machine
each-lays l f p = record { procs = rw (← procs-used l.lays.procs) p; rows = l.lays.rows; used = l.lays.used }
