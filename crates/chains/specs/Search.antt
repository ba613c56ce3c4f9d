-- What the search for a chain goes by, and what its parts find; only promises of private functions cite this file. Assumes nothing.
use Rattle.std.specs.Prelude.{ℕ, ◌+◌, ◌<◌, ◌≤◌, ◌≡◌, Bool, true, false, ◌⊎◌, List, length, get_or}
use Rattle.chains.specs.Chains.{Link, Chain}
use Rattle.locks.specs.declared.rows.Row.{Row}
use Rattle.locks.specs.Cells.{CELLS, Shows, cell_at}

-- ---- the rows

abbrev pub owner_at : List ℕ → ℕ → ℕ
owner_at t i = (cell_at t i).owner

-- row k is the first of the owner of row a
pub record First (t : List ℕ) (a k : ℕ) : Type 0 where
  pub stands : k ≤ a
  pub own : owner_at t k ≡ owner_at t a
  pub none : (j : ℕ) → j < k → owner_at t j ≡ owner_at t a → ⊥

-- t shows these rows, up to the last
pub record Shown (t : List ℕ) (last : ℕ) (rows : List Row) : Type 0 where
  pub shows : Shows t rows
  pub long : length rows ≡ last + 1

-- a link between rows that t shows
pub record Leads (t : List ℕ) (last p q : ℕ) : Type 0 where
  pub rows : List Row
  pub shown : Shown t last rows
  pub link : Link rows p q

-- ---- the processes that were opened, each with a mark at its first row

-- row i is one of those up to the last, and each place has a mark
pub record Ready (last i : ℕ) (opened : List Bool) : Type 0 where
  pub room : last < CELLS
  pub stands : i ≤ last
  pub size : length opened ≡ CELLS

-- q is opened, and it is not the owner of the last row
pub record Passed (t : List ℕ) (last : ℕ) (opened : List Bool) (q : ℕ) : Type 0 where
  pub row : ℕ
  pub mark : get_or opened row false ≡ true
  pub own : owner_at t row ≡ q
  pub other : q ≡ owner_at t last → ⊥

-- those that were opened still are, and those that now are too lead to such ones only
pub record Grown (t : List ℕ) (last : ℕ) (before after : List Bool) : Type 0 where
  pub size : length after ≡ CELLS
  pub keeps : (k : ℕ) → get_or before k false ≡ true → get_or after k false ≡ true
  pub closed : (k : ℕ) → get_or after k false ≡ true → (get_or before k false ≡ true) ⊎ ((q : ℕ) → Leads t last (owner_at t k) q → Passed t last after q)

-- the search from p: it found a chain to the owner of the last row, or there is none by way of those that it opened, and it passed all that it had to
pub record Searched (t : List ℕ) (last p : ℕ) (Had : ℕ → Type 0) (before : List Bool) (closes : Bool) (after : List Bool) : Type 0 where
  pub back : closes ≡ true → (rows : List Row) → Shown t last rows → Chain (Link rows) p (owner_at t last)
  pub grown : closes ≡ false → Grown t last before after
  pub had : closes ≡ false → (q : ℕ) → Had q → Passed t last after q
