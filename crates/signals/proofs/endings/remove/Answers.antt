use Prim.Native.Nat.{◌*◌}
use native.Mathlib.Omega.{arith}
use mathlib.Core.Path.{ap, ◌∙◌}
use lib.ListN.{replicate}
use borrow.Rule.Slice.PartMut.{mid_len}
use Rattle.places.specs.Places.{PLACE}
use Rattle.signals.proofs.Moving.{removed}
use Rattle.signals.proofs.endings.remove.Goals as goal

pub returns : goal.returns
returns c =
    removed c.requires c.move_up-k.ensures
    (c.fill.ensures.after (λ y e. e) ∙ ap (λ n. replicate n 0) (mid_len (c.move_up-k.result * PLACE) _ c.move_up-k.new.m (omega (arith, c.requires.live))))
