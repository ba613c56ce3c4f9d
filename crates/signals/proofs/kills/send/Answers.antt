use mathlib.Core.Path.{sym, ◌∙◌}
use Rattle.places.specs.Settled.{shown}
use Rattle.places.proofs.Callings.{caller-pid}
use Rattle.places.proofs.Laying.{housed}
use Rattle.signals.proofs.Killing.{sent-done, sent-ended}
use Rattle.signals.proofs.Noting.{noted_here}
use Rattle.signals.proofs.kills.send.Goals as goal
use Rattle.signals.proofs.kills.send.Goals.{then-is_some, else-is_some}

pub note-before-requires : goal.note-before-requires
note-before-requires c = housed c.requires.0.laid.lays.procs

pub find-requires : goal.find-requires
find-requires c = housed c.arrive.ensures.procs

pub settle-requires : goal.settle-requires
settle-requires c = housed c.arrive.ensures.procs

pub returns : goal.returns
returns c =
    let p = c.requires.0 in
    let l = c.arrive.ensures in
    let o = c.settle.ensures (shown c.args.arrays.now) _ _ (noted_here p.laid c.note-before.ensures) l in
    rw (caller-pid p c.of-pid.ensures)
    (elim c.if-is_some.branch [
      | then-is_some w ↦ sent-done _ l _ c.find.ensures o (sym c.is_some.ensures ∙ w.if-is_some.true) w.kind-is
      | else-is_some w ↦ sent-ended _ l _ c.find.ensures o (sym c.is_some.ensures ∙ w.if-is_some.false) w.kind-is
    ])
