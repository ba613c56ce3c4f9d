-- Stores to the seven reactions and the seven addresses of a process. Assumes nothing.
use Prim.Native.Nat.{ℕ, ◌+◌, ◌*◌, ◌≤◌, ◌<◌}
use native.Mathlib.Omega.{arith}
use mathlib.Core.Path.{◌≡◌, sym, ap, ◌∙◌}
use mathlib.Core.Bool.{true, ◌&&◌}
use mathlib.Core.List.{List, ◌∷◌, [], ◌++◌}
use lib.Dec.{ltb}
use lib.ListN.{length, get_or, set, length-set, get_or-append}
use lib.Seq.{set-append_left, get_or-append-add}
use borrow.Author.Tests.{eq-eqb, lt-ltb}
use Rattle.locks.proofs.Tests.{and-join}
use Rattle.rules.specs.State.{no_process, with_signals}
use Rattle.rules.specs.declared.state.Process.{Process}
use Rattle.places.specs.Places.{PLACE, Procs, REACTIONS, TRAPS, Turns, numbers, seven, small_ids, whole}
use Rattle.places.proofs.Laying.{Entire, entire, procs-get, seven-all}
use Rattle.locks.proofs.Pieces.{set-append-add}
use Rattle.places.proofs.Turning.{at-whole, turned}

-- ---- other reactions and addresses

seven-set : (xs : List ℕ) (k a : ℕ) → length xs ≡ 7 → set (seven xs) k a ≡ seven (set xs k a)
seven-set xs k a h = ap (λ (x : List ℕ). set x k a) (seven-all xs h) ∙ sym (seven-all (set xs k a) (length-set xs k a ∙ h))

-- the numbers ahead of them
unfoldable fourteen : Process → List ℕ
fourteen p =
    p.pid ∷ p.user.effective ∷ p.user.login ∷ p.user.program ∷ p.group.effective ∷ p.group.login
    ∷ p.group.program ∷ p.priority ∷ p.alarm ∷ p.rest.sleep ∷ p.rest.wake ∷ p.rest.seconds ∷ p.rest.left
    ∷ p.signals.pending ∷ []

abbrev pub reacting : ℕ → ℕ → Process → Process
reacting k a p = with_signals (record { reactions = set p.signals.reactions k a; pending = p.signals.pending; traps = p.signals.traps }) p

abbrev pub addressing : ℕ → ℕ → Process → Process
addressing k a p = with_signals (record { reactions = p.signals.reactions; pending = p.signals.pending; traps = set p.signals.traps k a }) p

-- a process is whole by its parts
pub wholly : (p : Process) → Entire p → whole p ≡ true
unfolding whole
wholly p e =
    and-join _ _ (and-join _ _ (eq-eqb _ 7 e.reactions) (eq-eqb _ 7 e.traps)) (and-join (small_ids p.user) (small_ids p.group) e.user e.group)

module _ (p : Process) (h : whole p ≡ true) (k : ℕ) (l : k < 7) where
  pub reaction-get : get_or (numbers p) (REACTIONS + k) 0 ≡ get_or p.signals.reactions k 0
  unfolding numbers fourteen
  reaction-get =
      get_or-append-add (fourteen p) (seven p.signals.reactions ++ seven p.signals.traps) k 0
      ∙ get_or-append (seven p.signals.reactions) (seven p.signals.traps) 0 k l
      ∙ ap (λ (x : List ℕ). get_or x k 0) (seven-all p.signals.reactions (entire p h).reactions)

  pub address-get : get_or (numbers p) (TRAPS + k) 0 ≡ get_or p.signals.traps k 0
  unfolding numbers fourteen
  address-get =
      get_or-append-add (fourteen p ++ seven p.signals.reactions) (seven p.signals.traps) k 0
      ∙ ap (λ (x : List ℕ). get_or x k 0) (seven-all p.signals.traps (entire p h).traps)

  module _ (a : ℕ) where
    pub reaction-set : set (numbers p) (REACTIONS + k) a ≡ numbers (reacting k a p)
    unfolding numbers fourteen
    reaction-set =
        set-append-add (fourteen p) (seven p.signals.reactions ++ seven p.signals.traps) k a
        ∙ ap (λ (x : List ℕ). fourteen p ++ x) (set-append_left (seven p.signals.reactions) (seven p.signals.traps) k a l ∙ ap (λ (x : List ℕ). x ++ seven p.signals.traps) (seven-set p.signals.reactions k a (entire p h).reactions))

    pub address-set : set (numbers p) (TRAPS + k) a ≡ numbers (addressing k a p)
    unfolding numbers fourteen
    address-set =
        set-append-add (fourteen p ++ seven p.signals.reactions) (seven p.signals.traps) k a
        ∙ ap (λ (x : List ℕ). (fourteen p ++ seven p.signals.reactions) ++ x) (seven-set p.signals.traps k a (entire p h).traps)

    pub reacting-whole : whole (reacting k a p) ≡ true
    reacting-whole =
        let e = entire p h in
        wholly (reacting k a p) (record { reactions = length-set p.signals.reactions k a ∙ e.reactions; traps = e.traps; user = e.user; group = e.group })

    pub addressing-whole : whole (addressing k a p) ≡ true
    addressing-whole =
        let e = entire p h in
        wholly (addressing k a p) (record { reactions = e.reactions; traps = length-set p.signals.traps k a ∙ e.traps; user = e.user; group = e.group })

-- ---- the stores of the code

-- they lie in the place
pub inside : (n k : ℕ) → n ≤ TRAPS → k < 7 → (ltb (n + k) PLACE && true) ≡ true
inside n k h l = rw (lt-ltb (n + k) PLACE (omega arith))

module _ {m : List ℕ} {i : ℕ} (k : ℕ) (l : k < 7) where
  module _ {ps : List Process} {used next : ℕ} (c : Procs m ps used next) (h : i < length ps) where
    pub reaction-at : get_or m (i * PLACE + (REACTIONS + k)) 0 ≡ get_or (get_or ps i no_process).signals.reactions k 0
    reaction-at = procs-get c i h (REACTIONS + k) (omega arith) ∙ reaction-get (get_or ps i no_process) (at-whole c h) k l

  pub turn-reaction : (a : ℕ) → Turns (reacting k a) m i (set m (i * PLACE + (REACTIONS + k)) a)
  turn-reaction a = record { is = λ {ps} c h. let w = at-whole c h in turned c h (reacting k a) ((REACTIONS + k, a) ∷ []) (inside REACTIONS k (omega arith) l) (reaction-set (get_or ps i no_process) w k l a) (reacting-whole (get_or ps i no_process) w k l a) }

  pub turn-address : (a : ℕ) → Turns (addressing k a) m i (set m (i * PLACE + (TRAPS + k)) a)
  turn-address a = record { is = λ {ps} c h. let w = at-whole c h in turned c h (addressing k a) ((TRAPS + k, a) ∷ []) (inside TRAPS k (omega arith) l) (address-set (get_or ps i no_process) w k l a) (addressing-whole (get_or ps i no_process) w k l a) }
