-- `calls::child::put_reactions` meets its contract. Assumes nothing.
use mathlib.Core.Path.{◌≡◌}
use Rattle.locks.specs.Pieces.{stores}
use Rattle.places.specs.Places.{PLACE, REACTIONS}
use Rattle.calls.specs.Making.{reaction_in, run}
use Rattle.calls.proofs.child.put_reactions.Given as goal

abbrev pub invariant-loop-k : goal.invariant-loop-k
invariant-loop-k l = l.m ≡ stores PLACE l.initial.m l.j (run REACTIONS (reaction_in l.d1 l.d2 l.initial.m l.i) l.k)
