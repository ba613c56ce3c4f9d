use mathlib.Core.Path.{refl}
use Rattle.places.specs.Settled.{shown}
use Rattle.places.proofs.Laying.{housed}
use Rattle.signals.proofs.Losing.{own_row, all-other, ended}
use Rattle.signals.proofs.endings.end_process.Goals as goal

pub lose_rows-requires : goal.lose_rows-requires
lose_rows-requires c = (c.requires, all-other)

pub remove-requires : goal.remove-requires
remove-requires c = housed (c.lose_rows.ensures (own_row c.args.pid) refl).procs

pub returns : goal.returns
returns c =
    let a = c.args in
    ended a.pid (shown a.arrays.now) (c.lose_rows.ensures (own_row a.pid) refl) c.remove.ensures
