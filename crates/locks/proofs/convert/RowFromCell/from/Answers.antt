-- A row made of a cell is what its numbers show. Assumes nothing.
use Rattle.std.proofs.Common.{◌≡◌, ◌∙◌, ◌%◌, arith}
use Rattle.locks.specs.Cells.{row_in}
use Rattle.locks.proofs.Converting.{digits-bytes}
use Rattle.locks.proofs.convert.RowFromCell.from.Goals as goal

pub returns : goal.returns
unfolding row_in
returns c h =
    let o : c.args.c.owner % 65536 ≡ c.args.c.owner = omega (arith, h) in
    let low = c.copy_from_slice.ensures.after ∙ c.to_le_bytes.ensures ∙ digits-bytes c.args.c.low in
    let high = c.copy_from_slice-2.ensures.after ∙ c.to_le_bytes-2.ensures ∙ digits-bytes c.args.c.high in
    rw (o, low, high)
