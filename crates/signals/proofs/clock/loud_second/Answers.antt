use mathlib.Core.Path.{refl}
use Rattle.rules.specs.Outcome.{done}
use Rattle.rules.specs.Clock.{slept}
use Rattle.places.proofs.Laying.{housed, laid}
use Rattle.places.proofs.Settling.{settled-masked}
use Rattle.signals.proofs.Noting.{noted_here}
use Rattle.signals.proofs.Passing.{each-lays}
use Rattle.signals.proofs.Ringing.{loud-lays}
use Rattle.signals.proofs.clock.loud_second.Goals as goal

pub note-before-requires : goal.note-before-requires
note-before-requires c = housed c.requires.lays.procs

pub pass_second-requires : goal.pass_second-requires
pass_second-requires c = housed c.requires.lays.procs

pub ring_all-requires : goal.ring_all-requires
ring_all-requires c = laid (each-lays c.requires slept c.pass_second.ensures)

pub settle-requires : goal.settle-requires
settle-requires c = housed (loud-lays c.requires c.pass_second.ensures c.note-before.ensures c.ring_all.ensures).procs

pub returns : goal.returns
returns c =
    let p = c.requires in
    let n = c.note-before.ensures in
    let l = loud-lays p c.pass_second.ensures n c.ring_all.ensures in
    settled-masked done l refl refl (c.settle.ensures _ _ _ (noted_here p n) l)
