-- One process changed in its place by stores to its fields. Assumes nothing.
use Prim.Native.Nat.{ℕ, ◌<◌}
use mathlib.Core.Path.{◌≡◌}
use mathlib.Core.Bool.{true}
use mathlib.Core.List.{List}
use lib.ListN.{length, get_or, set, length-set}
use lib.Seq.{get_or-set_same, set-set, set-get_or}
use Rattle.locks.proofs.Lists.{all-at}
use Rattle.rules.specs.State.{no_process}
use Rattle.rules.specs.declared.state.Process.{Process}
use Rattle.locks.specs.Pieces.{changes, stores, within}
use Rattle.places.specs.Places.{PLACE, Procs, Turns, numbers, whole}
use Rattle.places.proofs.Laying.{procs-set}

-- the process at place i
module _ {m : List ℕ} {ps : List Process} {used next : ℕ} (l : Procs m ps used next) {i : ℕ} (h : i < length ps) where
  pub at-whole : whole (get_or ps i no_process) ≡ true
  at-whole = all-at whole ps no_process i h l.whole

  -- stores that make it f of itself
  pub turned : (f : Process → Process) (ss : List (ℕ × ℕ)) → within PLACE ss ≡ true → changes (numbers (get_or ps i no_process)) ss ≡ numbers (f (get_or ps i no_process)) → whole (f (get_or ps i no_process)) ≡ true
      → Procs (stores PLACE m i ss) (set ps i (f (get_or ps i no_process))) used next
  turned f ss b e w = procs-set l i h ss (f (get_or ps i no_process)) b e w

  -- and none
  pub unturned : (f : Process → Process) → f (get_or ps i no_process) ≡ get_or ps i no_process → Procs m (set ps i (f (get_or ps i no_process))) used next
  unturned f e = rw (e, set-get_or ps i no_process) l

-- what the code has stored
pub turn_is : {f : Process → Process} {m u v : List ℕ} {i : ℕ} → u ≡ v → Turns f m i v → Turns f m i u
turn_is e t = rw e t

-- one change after another
pub then : {f g : Process → Process} {m u v : List ℕ} {i : ℕ} → Turns f m i u → Turns g u i v → Turns (λ p. g (f p)) m i v
then {f} {g} {i = i} a b =
    record {
      is = λ {ps} l h.
          let q = f (get_or ps i no_process) in
          rw (get_or-set_same ps i q no_process h, set-set ps i q (g q)) at (b.is (a.is l h) (rw (length-set ps i q) h));
    }
