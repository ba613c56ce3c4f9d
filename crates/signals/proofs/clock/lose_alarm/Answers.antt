use Rattle.signals.proofs.Elapsing.{alarm-less, alarm-off}
use Rattle.signals.proofs.clock.lose_alarm.Goals as goal

pub returns-then-alarm-ne0 : goal.returns-then-alarm-ne0
returns-then-alarm-ne0 c = rw c.set.ensures (alarm-less c.of-alarm.ensures)

pub returns-else-alarm-ne0 : goal.returns-else-alarm-ne0
returns-else-alarm-ne0 c = alarm-off c.of-alarm.ensures c.if-alarm-ne0.false
