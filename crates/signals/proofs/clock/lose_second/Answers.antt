use Rattle.signals.proofs.Elapsing.{second_none, second-last, second-less, second-zero}
use Rattle.signals.proofs.clock.lose_second.Goals as goal

pub returns-then-of-ne-FOR_TIME : goal.returns-then-of-ne-FOR_TIME
returns-then-of-ne-FOR_TIME c = second_none c.of.ensures c.if-of-ne-FOR_TIME.true

pub returns-then-seconds-eq1 : goal.returns-then-seconds-eq1
returns-then-seconds-eq1 c =
    rw c.wake.ensures (second-last c.of.ensures c.of-seconds.ensures c.if-of-ne-FOR_TIME.false c.if-seconds-eq1.true)

pub returns-then-seconds-ne0 : goal.returns-then-seconds-ne0
returns-then-seconds-ne0 c =
    rw c.set.ensures (second-less c.of.ensures c.of-seconds.ensures c.if-of-ne-FOR_TIME.false c.if-seconds-eq1.false)

pub returns-else-seconds-ne0 : goal.returns-else-seconds-ne0
returns-else-seconds-ne0 c =
    second-zero c.of.ensures c.of-seconds.ensures c.if-of-ne-FOR_TIME.false c.if-seconds-ne0.false
