use mathlib.Core.Path.{refl, sym}
use Rattle.signals.proofs.Losing.{own_row, of_owner}
use Rattle.signals.proofs.endings.lose_rows.Goals as goal

pub release-requires : goal.release-requires
release-requires c = (c.requires.0, record { row = own_row c.args.pid; names = of_owner c.requires.1 refl })

pub returns : goal.returns
returns c = λ r e. (c.release.ensures.1 r (of_owner c.requires.1 (sym e))).lays
