-- `soundness::process::is_addressed` meets its contract: the traps before place i fit. Assumes nothing.
use Rattle.std.proofs.Common.{◌≡◌}
use Rattle.std.proofs.Math.ListN.{drop}
use Rattle.rules.specs.Sound.{addressed}
use Rattle.soundness.proofs.process.is_addressed.Given as goal

abbrev pub invariant-loop-i : goal.invariant-loop-i
invariant-loop-i l = addressed l.pending 0 l.a-items ≡ addressed l.pending l.i (drop l.i l.a-items)
