use Rattle.signals.proofs.Losing.{waiting-other}
use Rattle.signals.proofs.Arriving.{arrive-ignored, arrive-ends, trap-laid, arrive-traps}
use Rattle.signals.proofs.signals.arrive.Goals as goal

pub returns-then-a-eq-IGNORE : goal.returns-then-a-eq-IGNORE
returns-then-a-eq-IGNORE c =
    let h = c.requires in
    arrive-ignored h.0 h.1 h.2 c.args.signal.known c.of-a.ensures c.if-a-eq-IGNORE.true

pub returns-then-a-eq-ABORT : goal.returns-then-a-eq-ABORT
returns-then-a-eq-ABORT c =
    let h = c.requires in
    arrive-ends h.0 h.1 h.2 c.args.signal.known c.of-a.ensures c.if-a-eq-IGNORE.false c.of-pid.ensures c.if-a-eq-ABORT.true c.end_process.ensures

pub lose_rows-requires : goal.lose_rows-requires
lose_rows-requires c =
    let h = c.requires in
    (trap-laid h.0 h.1 h.2 _ _ c.trap.ensures, waiting-other)

pub returns : goal.returns
returns c =
    let h = c.requires in
    arrive-traps h.0 h.1 h.2 c.args.signal.known c.of-a.ensures c.if-a-eq-IGNORE.false c.if-a-eq-ABORT.false c.trap.ensures c.of-pid.ensures c.lose_rows.ensures
