use Rattle.places.specs.Settled.{shown}
use Rattle.signals.proofs.Ringing.{Ringing}
use Rattle.signals.proofs.clock.ring_all.Given as goal

abbrev pub invariant-loop-past : goal.invariant-loop-past
invariant-loop-past l = Ringing (shown l.initial.arrays) l.before l.arrays.numbers l.arrays.cells l.past-index
