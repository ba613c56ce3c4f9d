use lib.ListN.{get_or}
use Rattle.places.specs.Places.{USED, NEXT, procs_in}
use Rattle.signals.proofs.Moving.{Moves}
use Rattle.signals.proofs.endings.move_up.Given as goal

abbrev pub invariant-loop-i : goal.invariant-loop-i
invariant-loop-i l = Moves l.pid (procs_in l.initial.m) (get_or l.initial.m USED 0) (get_or l.initial.m NEXT 0) l.m l.k l.i
