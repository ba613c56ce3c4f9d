-- `cells::is_waiting` meets its contract: no row from place i on is one that waits. Assumes nothing.
use Rattle.std.proofs.Common.{sym, ap, ◌∙◌, arith, not, [], length, ◌-◌}
use lib.Seq.{take_all}
use Rattle.locks.specs.Lists.{sift}
use Rattle.locks.specs.Rows.{no_row, waits_of, waiting_of}
use Rattle.locks.proofs.Loops.{last-passes, last_goes}
use borrow.Author.Tests.{ne_eqb}
use Rattle.locks.proofs.Telling.{walk, waits-here, other-here}
use Rattle.locks.proofs.cells.is_waiting.Goals as goal
use Rattle.locks.proofs.cells.is_waiting.Goals.{else-c-owner-via-then-c-owner+else-waits_behind, else-c-owner-via-else-c-owner}

pub loop-i-init : goal.loop-i-init
unfolding waiting_of
loop-i-init c = λ rows l e. ap (sift (waits_of c.args.owner) []) (sym (take_all c.args.used rows (omega (arith, e))))

pub returns-then-waits_behind : goal.returns-then-waits_behind
returns-then-waits_behind c =
    let i = c.loop-i.i in
    let f = waits_of c.args.owner in
    λ rows l e.
    let h = sym (waits-here l (i - 1) c.cell_at-c.ensures (omega (arith, e)) c.args.owner c.if-c-owner.true c.waits_behind.ensures) ∙ c.if-waits_behind.true in
    sym (ap not (ne_eqb _ 0 (λ z. last-passes (walk rows {n = length rows} (omega arith) (omega (arith, e))) f no_row c.loop-i-test.true h (sym (ap length (c.loop-i.invariant rows l e)) ∙ z))))

pub loop-i-preserved : goal.loop-i-preserved
loop-i-preserved c =
    let i = c.loop-i.i in
    let f = waits_of c.args.owner in
    λ rows l e.
    c.loop-i.invariant rows l e
    ∙ last_goes (walk rows {n = length rows} (omega arith) (omega (arith, e))) f no_row c.loop-i-test.true
    (elim c.else-c-owner.branch [
      | else-c-owner-via-then-c-owner+else-waits_behind w ↦ sym (waits-here l (i - 1) c.cell_at-c.ensures (omega (arith, e)) c.args.owner w.if-c-owner.true w.waits_behind.ensures) ∙ w.if-waits_behind.false
      | else-c-owner-via-else-c-owner w ↦ other-here l (i - 1) c.cell_at-c.ensures (omega (arith, e)) c.args.owner w.if-c-owner.false
    ])
