-- Tables of cases, proved row by row: where a row does not hold, the prover's message has the row, and so its name. Assumes nothing.
use mathlib.Core.Path.{◌≡◌, refl}
use mathlib.Core.List.{List, [], ◌∷◌, map}

-- f and g agree on every row
abbrev pub Each : {A B : Type 0} → (A → B) → (A → B) → List A → Type 0
Each f g [] = Unit {0}
Each f g (x ∷ xs) = (f x ≡ g x) × Each f g xs

pub each_same : {A B : Type 0} (f g : A → B) (xs : List A) → Each f g xs → map f xs ≡ map g xs
each_same f g [] h = refl
each_same f g (x ∷ xs) h = rw (h.0, each_same f g xs h.1) refl
