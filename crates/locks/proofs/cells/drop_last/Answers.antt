-- `cells::drop_last` meets its contract. Assumes nothing.
use Rattle.locks.proofs.Telling.{rows-less}
use Rattle.locks.proofs.cells.drop_last.Goals as goal

pub returns : goal.returns
returns c = λ rows r l e. let z = c.default.ensures in rw (c.put_cell.ensures, ← e, z.0, z.1.0, z.1.1.0, z.1.1.1) (rows-less r l (rw e c.requires))
