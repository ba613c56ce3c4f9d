-- Rows of one owner go, and a process ends. Assumes nothing.
use Prim.Native.Nat.{ℕ}
use native.Mathlib.Omega.{arith}
use mathlib.Core.Path.{◌≡◌, refl}
use mathlib.Core.Bool.{false, not}
use mathlib.Core.List.{List, []}
use lib.ListN.{get_or}
use Rattle.locks.specs.Lists.{keep}
use Rattle.locks.specs.Rows.{goes, owns, without_owner, without_waiting}
use Rattle.locks.specs.declared.rows.Row.{Row}
use Rattle.locks.specs.declared.rows.Part.{Part}
use Rattle.locks.specs.declared.rows.Part.TheVariants.{Twin, All, Waiting}
use Rattle.locks.proofs.Loops.{keep-sift}
use Rattle.rules.specs.State.{Machine, has, rows_left}
use Rattle.rules.specs.Signals.{ends, gone}
use Rattle.locks.specs.Cells.{Names, staying}
use Rattle.places.specs.Places.{Lays, NEXT, Procs, USED, procs_in}
use Rattle.locks.specs.declared.cells.Cell.{Cell}
use Rattle.places.proofs.Laying.{procs-back, procs-next, procs-used}

-- a row of that owner
abbrev pub own_row : ℕ → Row
own_row n = record { owner = n; shared = false; len = 0; bytes = [] }

pub all-other : All ≡ Twin → ⊥
all-other e = let z : ◌≡◌ {A = ℕ} 0 1 = cc in omega arith

pub waiting-other : Waiting ≡ Twin → ⊥
waiting-other e = let z : ◌≡◌ {A = ℕ} 0 1 = cc in omega arith

-- what stays of the rows, in the words of the rules
pub staying-all : (r : Row) (rows : List Row) → staying All r rows ≡ without_owner r.owner rows
unfolding goes without_owner
staying-all r rows = keep-sift (λ q. not (owns r.owner q)) [] rows

pub staying-waiting : (r : Row) (rows : List Row) → staying Waiting r rows ≡ without_waiting r.owner rows
unfolding goes without_waiting
staying-waiting r rows = refl

-- a cell of that owner tells what must be known of a request, where its sequence is not asked
pub of_owner : {part : Part} {c : Cell} {r : Row} → (part ≡ Twin → ⊥) → c.owner ≡ r.owner → Names part c r
of_owner n e = record { owner = e; whole = λ z. absurd (n z) }

-- ---- a process ends

pub ended : {u v z : List ℕ} (n : ℕ) (s : Machine) → Lays v u (rows_left (staying All (own_row n) s.rows) s) → Procs z (keep (λ p. not (has n p)) (procs_in v)) (get_or v USED 0) (get_or v NEXT 0) → Lays z u (ends n s)
unfolding ends gone rows_left
ended {u} {v} n s l y =
    let g : Lays v u (rows_left (without_owner n s.rows) s) = rw (staying-all (own_row n) s.rows) at l in
    record { procs = rw (procs-back g.procs, procs-used g.procs, procs-next g.procs) at y; rows = g.rows; used = g.used }
