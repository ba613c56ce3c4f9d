use mathlib.Core.Path.{refl}
use Rattle.signals.proofs.Noting.{note-more, noted, noting}
use Rattle.signals.proofs.masks.Before.note.Goals as goal

pub loop-i-init : goal.loop-i-init
loop-i-init c = noting _ _ refl

pub loop-i-preserved : goal.loop-i-preserved
loop-i-preserved c = note-more c.requires c.loop-i.invariant c.loop-i-test.true c.of.ensures c.of-in-loop-i.ensures

pub returns : goal.returns
returns c = noted c.requires c.loop-i.invariant c.loop-i-test.false refl refl
