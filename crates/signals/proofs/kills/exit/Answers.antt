use mathlib.Core.Path.{refl}
use Rattle.places.proofs.Callings.{caller-pid}
use Rattle.places.proofs.Laying.{housed}
use Rattle.signals.proofs.Killing.{exit-ended, exit-first}
use Rattle.signals.proofs.Noting.{noted_here}
use Rattle.signals.proofs.kills.exit.Goals as goal

pub returns-then-pid-eq1 : goal.returns-then-pid-eq1
returns-then-pid-eq1 c =
    let p = c.requires in
    exit-first p (caller-pid p c.of-pid.ensures) c.if-pid-eq1.true refl

pub note-before-requires : goal.note-before-requires
note-before-requires c = housed c.requires.laid.lays.procs

pub settle-requires : goal.settle-requires
settle-requires c = housed c.end_process.ensures.procs

pub returns : goal.returns
returns c =
    let p = c.requires in
    exit-ended p (caller-pid p c.of-pid.ensures) c.if-pid-eq1.false c.end_process.ensures (λ l. c.settle.ensures _ _ _ (noted_here p.laid c.note-before.ensures) l)
