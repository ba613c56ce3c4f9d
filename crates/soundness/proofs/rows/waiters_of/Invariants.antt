-- `soundness::rows::waiters_of` meets its contract: the first i rows are laid out, seen and told. Assumes nothing.
use Rattle.std.proofs.Common.{take}
use Rattle.soundness.proofs.Waiting.{Watched}
use Rattle.soundness.proofs.rows.waiters_of.Given as goal

abbrev pub invariant-loop-i : goal.invariant-loop-i
invariant-loop-i l = Watched l.ns (take l.i l.rows) l.cells l.seen l.owners l.count
