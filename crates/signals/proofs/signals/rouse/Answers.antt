use Rattle.signals.proofs.Traps.{rouse-none, rouse-woken}
use Rattle.signals.proofs.signals.rouse.Goals as goal

pub returns-then-of-ne-AWAKE : goal.returns-then-of-ne-AWAKE
returns-then-of-ne-AWAKE c = rw c.wake.ensures (rouse-woken c.of.ensures c.if-of-ne-AWAKE.true c.of-seconds.ensures)

pub returns-else-of-ne-AWAKE : goal.returns-else-of-ne-AWAKE
returns-else-of-ne-AWAKE c = rouse-none c.of.ensures c.if-of-ne-AWAKE.false
