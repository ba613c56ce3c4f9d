use Rattle.places.specs.Places.{procs_in}
use Rattle.signals.proofs.Noting.{Noting}
use Rattle.signals.proofs.masks.Before.note.Given as goal

abbrev pub invariant-loop-i : goal.invariant-loop-i
invariant-loop-i l = Noting (procs_in l.m) l.processes l.i
