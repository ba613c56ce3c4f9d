-- `writer::laying::lay` meets its contract. Assumes nothing.
use Rattle.std.proofs.Common.{rules}
use Rattle.writer.proofs.Buffers.{item-put}
use Rattle.writer.proofs.laying.lay.Goals as goal

pub returns : goal.returns
returns g c =
    let a = c.args in
    item-put a.out.now _ a.header.now a.k (search rules) (rw c.copy_from_slice.ensures.after) a.item.now c.put_item.new.out g.row.N a.n c.put_item.ensures
