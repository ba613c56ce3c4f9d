-- The fresh state in arrays of zeros. Assumes nothing.
use Prim.Native.Nat.{ℕ, ◌+◌}
use native.Mathlib.Omega.{arith}
use mathlib.Core.Path.{◌≡◌, refl, sym, ap, ◌∙◌, subst}
use mathlib.Core.List.{List, []}
use lib.ListN.{replicate, set}
use Rattle.locks.specs.Lists.{padded}
use Rattle.locks.specs.Rows.{no_row}
use Rattle.rules.specs.State.{fresh, laid, no_process, new_process}
use Rattle.rules.specs.Sound.{sound}
use Rattle.rules.proofs.States.{sound-stays}
use Rattle.locks.specs.Cells.{WORDS, Rows, laid_cells, words}
use Rattle.places.specs.Places.{LIVE, Lays, NEXT, NUMBERS, PID, Procs, REACTIONS, laid_procs, numbers, whole}
use Rattle.turns.specs.Turn.{Holds, state_in}
use Rattle.places.proofs.Laying.{lays_back}
use Rattle.places.proofs.Laying as laying

-- what the code stores
abbrev started : List ℕ → List ℕ
started m =
    set (set (set (set (set (set (set (set (set m PID 1) REACTIONS 1) (REACTIONS + 1) 1) (REACTIONS + 3) 1) (REACTIONS + 4) 1) (REACTIONS + 5) 1) (REACTIONS + 6) 1) LIVE 1) NEXT 2

first_rows : Rows (replicate WORDS 0) []
unfolding laid_cells words no_row padded
first_rows = record { is = refl; few = omega arith; whole = refl }

pub rows_none : {t : List ℕ} → t ≡ replicate WORDS 0 → Rows t []
rows_none e = subst (λ (x : List ℕ). Rows x []) (sym e) first_rows

first-procs : Procs (started (replicate NUMBERS 0)) fresh.procs 0 2
unfolding fresh laid_procs numbers no_process new_process padded whole
first-procs = record { is = refl; few = omega arith; whole = refl }

first-lays : Lays (started (replicate NUMBERS 0)) (replicate WORDS 0) fresh
unfolding fresh
first-lays = record { procs = first-procs; rows = first_rows; used = omega arith }

-- the arrays of zeros, and the fresh state in them
abbrev Begun : List ℕ → Type 0
Begun m = Holds (started m) (replicate WORDS 0) × (state_in (started m) (replicate WORDS 0) ≡ laid fresh)

pub begun : (m : List ℕ) → m ≡ replicate NUMBERS 0 → Begun m
unfolding state_in
begun m e =
    let b : state_in (started (replicate NUMBERS 0)) (replicate WORDS 0) ≡ laid fresh = ap laid (lays_back first-lays) in
    subst Begun (sym e) (record { laid = laying.laid first-lays; sound = ap sound b ∙ sound-stays.first }, b)
