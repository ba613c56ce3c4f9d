-- A cell made of a row tells it. Assumes nothing.
use Rattle.std.proofs.Common.{arith}
use Rattle.locks.proofs.Converting.{cell-tells}
use Rattle.locks.proofs.convert.CellFromRow.from.Goals as goal

pub returns-then-r : goal.returns-then-r
returns-then-r c = cell-tells c.args.r c.from.ensures (rw c.if-r.true (omega arith)) c.words_of-words.ensures

pub returns-else-r : goal.returns-else-r
returns-else-r c = cell-tells c.args.r c.from.ensures (rw c.if-r.false (omega arith)) c.words_of-words.ensures
