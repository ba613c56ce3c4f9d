use mathlib.Core.Path.{sym, ◌∙◌}
use Rattle.places.proofs.Laying.{housed}
use Rattle.signals.proofs.Quiet.{quiet-settled}
use Rattle.signals.proofs.clock.tick.Goals as goal

pub alarm_due-requires : goal.alarm_due-requires
alarm_due-requires c = housed c.requires.0.lays.procs

pub second-woken-requires : goal.second-woken-requires
second-woken-requires c = housed c.requires.0.lays.procs

pub returns : goal.returns
returns c =
    let s = c.requires in
    quiet-settled s.0 c.second-woken.ensures s.1 (sym c.if-alarm_due.false ∙ c.alarm_due.ensures) c.with_masks.ensures
