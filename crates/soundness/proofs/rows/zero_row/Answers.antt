-- `soundness::rows::zero_row` meets its contract. Assumes nothing.
use Rattle.std.proofs.Common.{◌∙◌}
use mathlib.Core.Bool.{and_assoc}
use Rattle.locks.specs.Rows.{zero_row}
use Rattle.soundness.proofs.Zeros.{default_zeros, equal_zeros, is_false}
use Rattle.soundness.proofs.rows.zero_row.Goals as goal

pub returns : goal.returns
unfolding zero_row
returns c =
    let r = c.args.r.now in
    let d = c.default.ensures in
    c.eq.ensures ∙ rw (d.0, d.1.0, d.1.1.0, default_zeros d.1.1.1, equal_zeros 16 r.bytes, is_false r.shared) (simp and_assoc)
