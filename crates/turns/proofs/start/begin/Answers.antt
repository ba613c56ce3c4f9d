-- `turns::start::begin` meets its contract. Assumes nothing.
use Rattle.turns.proofs.Starting.{begun}
use Rattle.turns.proofs.start.begin.Goals as goal

pub returns : goal.returns
returns c = begun c.args.m.now c.requires
