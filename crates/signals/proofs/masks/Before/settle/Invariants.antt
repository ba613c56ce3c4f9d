use Rattle.signals.proofs.Comparing.{Comparing}
use Rattle.signals.proofs.masks.Before.settle.Given as goal

abbrev pub invariant-loop-past : goal.invariant-loop-past
invariant-loop-past l = Comparing l.m l.self l.woken l.ended l.bit l.past-index
