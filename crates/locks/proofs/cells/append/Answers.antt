-- `cells::append` meets its contract. Assumes nothing.
use Rattle.locks.proofs.Telling.{rows_more}
use Rattle.locks.proofs.cells.append.Goals as goal

pub returns : goal.returns
returns c = λ rows r l e x. rw (c.put_cell.ensures, ← e) (rows_more l (rw e c.requires) x)
