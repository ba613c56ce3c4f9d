-- `cells::is_twin` meets its contract. Assumes nothing.
use Rattle.std.proofs.Common.{sym, ◌∙◌}
use borrow.Author.Tests.{ne_eqb}
use Rattle.locks.proofs.Telling.{tells-owner, twin-here, no-twin-here}
use Rattle.locks.proofs.cells.is_twin.Goals as goal

pub returns-then-x-c : goal.returns-then-x-c
returns-then-x-c c = λ r q x y. twin-here y r (tells-owner x) c.if-x-c.true x c.same_sequence.ensures

pub returns-else-x-c : goal.returns-else-x-c
returns-else-x-c c = λ r q x y. ne_eqb c.args.x.owner c.args.c.owner c.if-x-c.false ∙ sym (no-twin-here y r (tells-owner x) c.if-x-c.false)
