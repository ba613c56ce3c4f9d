-- Who wakes when rows have gone, and who does not. Assumes nothing.
use Prim.Native.Nat.{ℕ, ◌+◌, ◌*◌, ◌<◌}
use native.Mathlib.Omega.{arith}
use mathlib.Core.Path.{◌≡◌, refl, sym, ap, ◌∙◌}
use mathlib.Core.Bool.{Bool, true, false, not}
use mathlib.Core.List.{List}
use lib.Dec.{eqb}
use lib.ListN.{length, get_or}
use Rattle.std.proofs.Math.Bool.{not-not}
use borrow.Author.Tests.{eq-eqb, eqb-true, ne_eqb}
use Rattle.locks.specs.Lists.{is_zero}
use Rattle.locks.specs.Rows.{waiting_of}
use Rattle.locks.specs.declared.rows.Row.{Row}
use Rattle.locks.proofs.Tests.{and_split}
use Rattle.rules.specs.State.{granted, no_process, sleeps, woken_by}
use Rattle.rules.specs.declared.state.Process.{Process}
use Rattle.places.specs.Places.{PID, PLACE, Procs, SLEEP, numbers}
use Rattle.places.proofs.Laying.{procs-get}
use Rattle.locking.specs.Granted.{is_granted}

module _ (rows : List Row) (p : Process) where
  pub still-asleep : is_granted rows p ≡ false → granted rows p ≡ p
  unfolding granted
  still-asleep h = rw h

  module _ (h : is_granted rows p ≡ true) where
    pub wakes : woken_by 1 0 p ≡ granted rows p
    unfolding granted
    wakes = rw h

    pub was-asleep : sleeps p ≡ true
    was-asleep = rw (eqb-true p.rest.sleep 2 (and_split (eqb p.rest.sleep 2) _ h).0)

-- the process that the code has read at place i
module _ (rows : List Row) {m : List ℕ} {ps : List Process} {used next i : ℕ} (l : Procs m ps used next) (h : i < length ps) {x : ℕ} (e : x ≡ get_or m (i * PLACE + SLEEP) 0) where
  slumber : x ≡ (get_or ps i no_process).rest.sleep
  unfolding numbers
  slumber = e ∙ procs-get l i h SLEEP (omega arith)

  pub other-sleeper : (x ≡ 2 → ⊥) → eqb x 2 ≡ is_granted rows (get_or ps i no_process)
  other-sleeper d = rw (ne_eqb x 2 d, ne_eqb (get_or ps i no_process).rest.sleep 2 (λ g. d (slumber ∙ g))) refl

  pub lock-sleeper : x ≡ 2 → {y : ℕ} → y ≡ get_or m (i * PLACE + PID) 0 → {b : Bool} → b ≡ not (is_zero (length (waiting_of y rows))) → not b ≡ is_granted rows (get_or ps i no_process)
  unfolding numbers
  lock-sleeper g {y} o w =
      rw (eq-eqb (get_or ps i no_process).rest.sleep 2 (sym slumber ∙ g))
      (ap not w ∙ not-not (is_zero (length (waiting_of y rows))) ∙ ap (λ (j : ℕ). is_zero (length (waiting_of j rows))) (o ∙ procs-get l i h PID (omega arith)))
