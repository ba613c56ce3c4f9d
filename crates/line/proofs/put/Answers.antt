-- `line::put` meets its contract. Assumes nothing.
use Rattle.std.proofs.Common.{arith}
use Rattle.line.proofs.Puts.{to-part}
use Rattle.line.proofs.put.Goals as goal

pub returns : goal.returns
returns c =
    let a = c.args in
    to-part a.text.now a.out.now c.copy_from_slice.new.self a.at _ c.requires (omega arith) c.copy_from_slice.ensures.after
