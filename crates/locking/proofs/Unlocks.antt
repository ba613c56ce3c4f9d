-- Unlock: refused, or rows go and their owners wake. Assumes nothing.
use Prim.Native.Nat.{ℕ, ◌≤◌}
use native.Mathlib.Nat.{le_trans}
use mathlib.Core.Path.{◌≡◌, refl, sym, ◌∙◌}
use mathlib.Core.Bool.{true, false, not}
use mathlib.Core.List.{List, []}
use lib.ListN.{length, get_or, set}
use Rattle.locks.specs.Lists.{mask}
use Rattle.locks.specs.Rows.{goes, twin, has_twin, without_twin}
use Rattle.locks.specs.declared.rows.Row.{Row}
use Rattle.locks.specs.declared.rows.Part.{Part}
use Rattle.locks.specs.declared.rows.Part.TheVariants.{Twin}
use Rattle.locks.proofs.Fewer.{fewer-length, fewer-sift}
use Rattle.locks.proofs.Loops.{keep-sift}
use Rattle.rules.specs.State.{Machine, no_process, new_process, granted, rows_left}
use Rattle.rules.specs.Outcome.{badcall, done, notlocked}
use Rattle.rules.specs.Calls.{bad_sequence, row_of, unlock_row, do_unlock}
use Rattle.rules.specs.declared.state.Process.{Process}
use Rattle.rules.specs.declared.state.Event.{Event}
use Rattle.rules.proofs.Frame.{Ok}
use Rattle.rules.proofs.Rows.{granted-pid}
use Rattle.places.specs.Places.{wakes_by, Laid, Lays, ROWS, USED, machine, with_rows}
use Rattle.places.proofs.Masking.{map-masks}
use Rattle.locks.specs.Cells.{Left, Names, Rows, Tells, staying}
use Rattle.locking.specs.Granted.{Granted, Released}
use Rattle.places.specs.declared.arrays.Arrays.{Arrays}
use Rattle.places.specs.Settled.{Settled, answer_of, masked}
use Rattle.rules.specs.Reply.{four_of}
use Rattle.places.proofs.Laying.{laid, lays_back, lays-rows, procs-used}
use Rattle.places.proofs.Settling.{settled-masked, settled-past, settled-when}
use Rattle.locks.proofs.Telling.{tells-owner}
use Rattle.locks.specs.declared.cells.Cell.{Cell}

-- ---- rows have gone: their array, their count, and who wakes

-- what `take_out` has promised
module _ {m t : List ℕ} (l : Laid m t) {part : Part} {c : Cell} {u : List ℕ} {k : ℕ} (h : (rows : List Row) (r : Row) → Rows t rows → length rows ≡ get_or m USED 0 → Names part c r → Left part r rows u k)
    {r : Row} (y : Names part c r) where
  abbrev rows : List Row
  rows = staying part r (machine m t).rows

  left : Left part r (machine m t).rows u k
  left = h (machine m t).rows r l.lays.rows (sym (procs-used l.lays.procs)) y

  left-few : length rows ≤ ROWS
  left-few = le_trans (fewer-length (fewer-sift (λ earlier q. not (goes part r earlier q)) [] (machine m t).rows)) l.lays.used

  pub left-count : k ≤ ROWS
  left-count = rw left.count left-few

  left-lays : Lays (set m USED k) u (with_rows rows (machine m t))
  left-lays = rw left.count (lays-rows l.lays rows left.laid left-few)

  pub left_laid : Laid (set m USED k) u
  left_laid = laid left-lays

  pub left-lost : {v : List ℕ} {w : ℕ} → Granted (set m USED k) u v w → Lays v u (rows_left rows (machine m t))
  unfolding rows_left
  left-lost g = rw (lays_back left-lays) at g.lays

  pub left-woken : {v : List ℕ} {w : ℕ} → Granted (set m USED k) u v w → w ≡ mask (wakes_by (granted rows)) (machine m t).procs
  left-woken g = rw (lays_back left-lays) at g.woken

-- a cell that tells the request tells what must be known of it
pub named : (part : Part) {c : Cell} {r : Row} → Tells c r → Names part c r
named part y = record { owner = tells-owner y; whole = λ _. y }

staying-twin : (r : Row) (rows : List Row) → staying Twin r rows ≡ without_twin r rows
unfolding without_twin goes
staying-twin r rows = keep-sift (λ q. not (twin r q)) [] rows

-- ---- the answers

module _ {s : Machine} (p : Process) (e : Event) {out : List ℕ} where
  pub unlock-bad : {m t : List ℕ} → bad_sequence e ≡ true → Lays m t s → out ≡ four_of (answer_of 3 5 0 0) → Settled s (do_unlock p e s) out m t
  unfolding do_unlock
  unlock-bad h l o = settled-when badcall _ h l o

  module _ (h : bad_sequence e ≡ false) where
    pub unlock-none : {m t : List ℕ} → has_twin (row_of p e false) s.rows ≡ false → Lays m t s → out ≡ four_of (answer_of 3 14 0 0) → Settled s (do_unlock p e s) out m t
    unfolding do_unlock unlock_row
    unlock-none k l o = settled-past badcall h (settled-when notlocked _ (rw k) l o)

    pub unlock-done : {u : Arrays} {w : ℕ} → Ok s → has_twin (row_of p e false) s.rows ≡ true → Released Twin (row_of p e false) s u w → out ≡ four_of (masked 0 w 0) → Settled s (do_unlock p e s) out u.numbers u.cells
    unfolding do_unlock unlock_row rows_left granted no_process new_process
    unlock-done c k g o =
        let q = row_of p e false in
        let rows = without_twin q s.rows in
        let a = map-masks (granted rows) (granted-pid rows) refl s (rows_left rows s) c refl in
        settled-past badcall h (settled-past notlocked (rw k) (settled-masked done (rw (staying-twin q s.rows) at g.lays) ((rw (staying-twin q s.rows) at g.woken) ∙ a.0) a.1 o))
