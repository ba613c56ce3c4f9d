use lib.ListN.{get_or}
use Rattle.rules.specs.Clock.{slept}
use Rattle.places.specs.Places.{LIVE, NEXT, USED, procs_in}
use Rattle.signals.proofs.Passing.{Passing}
use Rattle.signals.proofs.clock.pass_second.Given as goal

abbrev pub invariant-loop-i : goal.invariant-loop-i
invariant-loop-i l = Passing slept (procs_in l.initial.m) (get_or l.initial.m USED 0) (get_or l.initial.m NEXT 0) l.m (get_or l.initial.m LIVE 0) l.i
