-- `chains::search::first_row` meets its contract: none before i is that owner's. Assumes nothing.
use Rattle.std.proofs.Common.{ℕ, ◌<◌, ◌≡◌}
use Rattle.chains.specs.Search.{owner_at}
use Rattle.chains.proofs.search.first_row.Given as goal

abbrev pub invariant-loop-i : goal.invariant-loop-i
invariant-loop-i l = (j : ℕ) → j < l.i → owner_at l.t j ≡ owner_at l.t l.a → ⊥
