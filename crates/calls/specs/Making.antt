-- The child of fshell as it is made in its place. Assumes nothing.
use Rattle.std.specs.Prelude.{ℕ, zero, suc, ◌+◌, ◌*◌, cond, List, [], ◌∷◌, ◌++◌, eqb, get_or}
use Rattle.rules.specs.State.{abort}
use Rattle.rules.specs.Calls.{child_reaction}
use Rattle.places.specs.Places.{PLACE, USER, REACTIONS}

-- n numbers stored one after another, from the place `base` on
abbrev pub run : ℕ → (ℕ → ℕ) → ℕ → List (ℕ × ℕ)
run base g zero = []
run base g (suc n) = run base g n ++ (base + n, g n) ∷ []

-- the ids and the priority of the process at place i: seven numbers from USER on
abbrev pub id_in : List ℕ → ℕ → ℕ → ℕ
id_in m i k = get_or m (i * PLACE + (USER + k)) 0

-- the reactions of its child
abbrev pub reaction_in : ℕ → ℕ → List ℕ → ℕ → ℕ → ℕ
reaction_in d1 d2 m i k = cond (eqb k 2) abort (child_reaction d1 d2 k (get_or m (i * PLACE + (REACTIONS + k)) 0))
