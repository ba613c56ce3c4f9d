-- `cells::waits_behind` meets its contract: none of the first i rows conflicts with it. Assumes nothing.
use Rattle.std.proofs.Common.{sym, ◌∙◌, arith}
use Rattle.locks.specs.Rows.{no_row, conflict, waits}
use Rattle.locks.proofs.Loops.{found, none}
use Rattle.locks.proofs.Telling.{walk, tells_row}
use Rattle.locks.proofs.cells.waits_behind.Goals as goal

pub returns-then-conflicts : goal.returns-then-conflicts
unfolding waits
returns-then-conflicts c =
    let i = c.loop-i.i in
    λ rows q l h x.
    sym (found (walk rows {i = i} h (omega arith)) (conflict q) no_row (omega arith) (sym (c.conflicts.ensures q _ x (tells_row l i c.cell_at.ensures (omega arith))) ∙ c.if-conflicts.true))

pub returns : goal.returns
unfolding waits
returns c = λ rows q l h x. sym (none (walk rows h (omega arith)) (conflict q) (omega arith) (c.loop-i.invariant rows q l h x))
