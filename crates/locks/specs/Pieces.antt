-- Lists of numbers that are pieces of one length, laid one after another. Assumes nothing.
use Rattle.std.specs.Prelude.{ℕ, zero, suc, ◌+◌, ◌*◌, List, [], ◌∷◌, ◌++◌, Bool, drop, set, ltb}
use Rattle.locks.specs.Lists.{all}

module _ {A : Type 0} where
  -- each as its numbers
  abbrev pub joined : (A → List ℕ) → List A → List ℕ
  joined f [] = []
  joined f (a ∷ xs) = f a ++ joined f xs

  -- back: n pieces of w numbers
  abbrev pub parted : (List ℕ → A) → ℕ → ℕ → List ℕ → List A
  parted g w zero m = []
  parted g w (suc n) m = g m ∷ parted g w n (drop w m)

-- numbers stored, each at a place of the piece
abbrev pub changes : List ℕ → List (ℕ × ℕ) → List ℕ
changes p [] = p
changes p (s ∷ ss) = changes (set p s.0 s.1) ss

-- the same in piece i of many, w numbers each
abbrev pub stores : ℕ → List ℕ → ℕ → List (ℕ × ℕ) → List ℕ
stores w m i [] = m
stores w m i (s ∷ ss) = stores w (set m (i * w + s.0) s.1) i ss

-- each place lies in the piece
abbrev pub within : ℕ → List (ℕ × ℕ) → Bool
within w ss = all (λ s. ltb s.0 w) ss
