-- `locking::locking::hold` meets its contract. Assumes nothing.
use mathlib.Core.Path.{sym}
use Rattle.locking.proofs.Lockings.{hold-done, laid-rows}
use Rattle.locking.proofs.locking.hold.Goals as goal

pub returns : goal.returns
returns c = λ r y.
    let f = c.requires in
    hold-done f r c.if-used-eq-ROWS.false (c.append.ensures _ r f.laid.lays.rows (sym (laid-rows f.laid f.count)) y) c.plain.ensures
