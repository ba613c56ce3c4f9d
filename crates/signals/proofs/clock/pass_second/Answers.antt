use Rattle.rules.specs.Clock.{slept}
use Rattle.signals.proofs.Passing.{pass-turn, passed, passing}
use Rattle.signals.proofs.clock.pass_second.Goals as goal

pub loop-i-init : goal.loop-i-init
loop-i-init c = passing slept c.requires.procs

pub loop-i-preserved : goal.loop-i-preserved
loop-i-preserved c =
    let y = c.lose_second.ensures in
    pass-turn c.loop-i.invariant c.loop-i-test.true y.0 y.1

pub returns : goal.returns
returns c = passed c.loop-i.invariant c.loop-i-test.false
