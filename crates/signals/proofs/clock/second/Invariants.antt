use lib.ListN.{get_or}
use Rattle.signals.proofs.Seconds.{second}
use Rattle.places.specs.Places.{LIVE, USED, NEXT, procs_in}
use Rattle.locking.proofs.Sweep.{Sweep}
use Rattle.signals.proofs.clock.second.Given as goal

abbrev pub invariant-loop-i : goal.invariant-loop-i
invariant-loop-i l = Sweep second (procs_in l.initial.m) (get_or l.initial.m USED 0) (get_or l.initial.m NEXT 0) l.m (get_or l.initial.m LIVE 0) l.woken l.bit l.i
