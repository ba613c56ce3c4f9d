-- `cells::close_up` meets its contract: those that stay of the first i rows stand first. Assumes nothing.
use mathlib.Core.Path.{◌≡◌, sym, ap, ◌∙◌}
use mathlib.Core.Bool.{not}
use mathlib.Core.List.{List}
use native.Mathlib.Omega.{arith}
use lib.ListN.{length, take, get_or}
use Rattle.locks.specs.Rows.{no_row, goes}
use Rattle.locks.specs.declared.rows.Row.{Row}
use Rattle.locks.specs.Cells.{Rows, Names}
use Rattle.locks.proofs.Gaps.{gap, gone-here, row_moved, row-still, row-gone, closed}
use Rattle.locks.proofs.cells.close_up.Goals as goal
use Rattle.locks.proofs.cells.close_up.Goals.{then-not-is_gone, then-k-i, else-k-i, else-not-is_gone}

pub loop-i-init : goal.loop-i-init
loop-i-init c = (omega arith, λ rows r l e n. gap l)

pub loop-i-preserved : goal.loop-i-preserved
loop-i-preserved c =
    let a = c.args in
    let v = c.loop-i.invariant in
    let i = c.loop-i.i in
    let x = c.cell_at-x.ensures in
    let gone : (rows : List Row) (r : Row) → Rows a.t.now rows → length rows ≡ a.used → Names a.part a.c r → not c.is_gone.result ≡ not (goes a.part r (take i rows) (get_or rows i no_row)) =
    λ rows r l e n. ap not (gone-here a.part r l (v.1 rows r l e n) (omega (arith, e)) x n c.is_gone.ensures) in
    elim c.if-not-is_gone.branch [
      | then-not-is_gone w ↦
          elim w.if-k-i.branch [
            | then-k-i u ↦ rw (w.t-is, w.k-is, u.t-is, u.put_cell.ensures) (omega arith, λ rows r l e n. row_moved a.part r l (v.1 rows r l e n) (omega (arith, e)) x (sym (gone rows r l e n) ∙ ap not w.if-not-is_gone.true))
            | else-k-i u ↦ rw (w.t-is, w.k-is, u.t-is) (omega arith, λ rows r l e n. row-still a.part r l (v.1 rows r l e n) (omega (arith, e)) x (sym (gone rows r l e n) ∙ ap not w.if-not-is_gone.true) (omega (arith, u.if-k-i.false)))
          ]
      | else-not-is_gone w ↦ rw (w.t-is, w.k-is) (omega arith, λ rows r l e n. row-gone a.part r l (v.1 rows r l e n) (omega (arith, e)) x (sym (gone rows r l e n) ∙ ap not w.if-not-is_gone.false))
    ]

pub returns-clause-closed : goal.returns-clause-closed
returns-clause-closed c = λ rows r l e n. closed c.args.part r l (c.loop-i.invariant.1 rows r l e n) (omega (arith, e))
