-- `model::readout::processes_in` meets its contract: the first i processes are read. Assumes nothing.
use Rattle.std.proofs.Common.{◌≡◌, take}
use Rattle.locks.specs.Lists.{padded}
use Rattle.rules.specs.State.{no_process}
use Rattle.places.specs.Places.{PLACES, procs_in}
use Rattle.model.proofs.readout.processes_in.Given as goal

abbrev pub invariant-loop-i : goal.invariant-loop-i
invariant-loop-i l = l.procs ≡ padded PLACES no_process (take l.i (procs_in l.m))
