-- `soundness::rows::cell_of` meets its contract: the four numbers of the row. Assumes nothing.
use Rattle.std.proofs.Common.{rules, ◌≡◌, true}
use Rattle.locks.specs.Rows.{sound_row}
use Rattle.soundness.proofs.Whole.{sound-fit}
use Rattle.soundness.proofs.rows.cell_of.Goals as goal

pub returns : goal.returns
returns c =
    let h : sound_row c.args.ns.now c.args.r.now ≡ true = search rules in
    (h, c.from.ensures (sound-fit c.args.ns.now c.args.r.now h))
