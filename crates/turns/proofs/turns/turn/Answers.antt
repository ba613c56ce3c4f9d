-- `turns::turns::turn` meets its contract. Assumes nothing.
use Rattle.turns.proofs.Border.{turned}
use Rattle.turns.proofs.turns.turn.Goals as goal

pub returns : goal.returns
returns c = rw c.reply.ensures (turned c.args.e c.requires c.outcome.ensures)
