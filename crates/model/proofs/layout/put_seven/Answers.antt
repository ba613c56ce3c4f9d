-- `model::layout::put_seven` meets its contract. Assumes nothing.
use Rattle.std.proofs.Common.{◌∙◌, arith}
use Rattle.std.proofs.lemmas.Slice.{put_mid-paste}
use Rattle.model.proofs.Putting.{seven-copied}
use Rattle.model.proofs.layout.put_seven.Goals as goal

pub returns : goal.returns
returns c =
    let x = c.args in
    (c.told-xs, put_mid-paste _ _ x.m.now _ x.xs.now 7 c.copy_from_slice.ensures.after (omega arith) (omega arith) ∙ seven-copied x.m.now x.xs.now x.i x.at c.told-xs (omega arith))
