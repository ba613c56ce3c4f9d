-- `soundness::state::pids_fit` meets its contract: the PIDs before place i ascend. Assumes nothing.
use Rattle.std.proofs.Common.{◌≡◌}
use Rattle.std.proofs.Math.ListN.{drop}
use Rattle.rules.specs.Sound.{ascend}
use Rattle.soundness.proofs.state.pids_fit.Given as goal

abbrev pub invariant-loop-n : goal.invariant-loop-n
invariant-loop-n l = ascend 1 l.ns l.next ≡ ascend l.low (drop l.n-index l.ns) l.next
