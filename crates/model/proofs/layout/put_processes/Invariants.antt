-- `model::layout::put_processes` meets its contract: the first i processes are in their places. Assumes nothing.
use Rattle.std.proofs.Common.{take}
use Rattle.model.specs.Fields.{Unnumbered}
use Rattle.model.proofs.layout.put_processes.Given as goal

abbrev pub invariant-loop-i : goal.invariant-loop-i
invariant-loop-i l = Unnumbered l.m (take l.i l.procs)
