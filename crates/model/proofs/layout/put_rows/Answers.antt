-- `model::layout::put_rows` meets its contract. Assumes nothing.
use Rattle.std.proofs.Common.{arith, refl, false, []}
use Rattle.locks.specs.declared.rows.Row.{Row}
use lib.Seq.{take_all, length-take-le}
use Rattle.locks.proofs.Lists.{all-at}
use Rattle.locks.specs.Words.{fit_row}
use Rattle.turns.proofs.Starting.{rows_none}
use Rattle.model.proofs.Putting.{take_more}
use Rattle.model.proofs.layout.put_rows.Goals as goal

-- what a read past the end would give
abbrev blank : Row
blank = record { owner = 0; shared = false; len = 0; bytes = [] }

pub loop-i-init : goal.loop-i-init
loop-i-init c = rows_none c.requires.2

pub loop-i-preserved : goal.loop-i-preserved
loop-i-preserved c =
    let rows = c.args.rows.now in
    let i = c.loop-i.i in
    let l = c.loop-i-test.true in
    rw (take_more rows i blank l refl)
    (c.append.ensures _ _ c.loop-i.invariant (length-take-le i rows (omega arith)) (c.from.ensures (all-at fit_row rows blank i l c.requires.1)))

pub returns : goal.returns
returns c = rw (take_all c.loop-i.i c.args.rows.now c.loop-i-test.false) at c.loop-i.invariant
