-- `brinefeather::writing::brinefeather_add_sequence` meets its contract. Assumes nothing.
use Rattle.std.proofs.Common.{◌∙◌, ap}
use Rattle.brinefeather.specs.Desk.{added_number}
use Rattle.brinefeather.proofs.writing.brinefeather_add_sequence.Goals as goal

pub returns : goal.returns
returns c =
    let k = rw (c.writer_of.ensures, c.sequence_of.ensures) at c.add_sequence.ensures in
    (c.added_number.ensures ∙ ap (λ y. added_number y.0) k, ap (λ y. y.1) k)
