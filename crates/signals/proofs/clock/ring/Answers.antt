use Rattle.signals.proofs.Ringing.{less-first, less-laid, less-stands, ring-last, ring-other}
use Rattle.signals.proofs.clock.ring.Goals as goal

pub arrive-requires : goal.arrive-requires
arrive-requires c =
    let p = c.requires in
    let e = c.lose_alarm.ensures in
    (less-laid p.0 p.1 p.2 e, less-stands p.0 p.1 p.2 e, less-first p.0 p.1 p.2 e)

pub returns-then-alarm-eq1 : goal.returns-then-alarm-eq1
returns-then-alarm-eq1 c =
    let p = c.requires in
    ring-last p.0 p.1 p.2 c.lose_alarm.ensures c.of-alarm.ensures c.if-alarm-eq1.true c.arrive.ensures

pub returns-else-alarm-eq1 : goal.returns-else-alarm-eq1
returns-else-alarm-eq1 c =
    let p = c.requires in
    ring-other p.0 p.1 p.2 c.lose_alarm.ensures c.of-alarm.ensures c.if-alarm-eq1.false
