-- `model::readout::rows_in` meets its contract. Assumes nothing.
use Prim.Native.Nat.{◌+◌, ◌*◌}
use native.Mathlib.Omega.{arith}
use mathlib.Core.Path.{◌≡◌, ap, ◌∙◌}
use mathlib.Core.List.{List}
use lib.ListN.{get_or, set, replicate}
use lib.Seq.{take_all}
use Rattle.locks.specs.Lists.{padded}
use Rattle.locks.specs.Rows.{no_row}
use Rattle.locks.specs.declared.rows.Row.{Row}
use Rattle.locks.specs.Cells.{CELL, OWNER, four, row_in, rows_in}
use Rattle.locks.specs.declared.cells.Cell.{Cell}
use Rattle.soundness.proofs.Zeros.{default_zeros}
use Rattle.places.specs.Places.{ROWS}
use Rattle.model.proofs.Putting.{padded-next}
use Rattle.model.proofs.Readings.{cell-row, row_here, rows-count}
use Rattle.model.proofs.readout.rows_in.Goals as goal

pub loop-i-init : goal.loop-i-init
unfolding padded no_row
loop-i-init c =
    let d = c.default-rows.ensures in
    let e : c.default-rows.result ≡ no_row = λ j. record { owner = d.0 j; shared = d.1.0 j; len = d.1.1.0 j; bytes = default_zeros d.1.1.1 j } in
    ap (λ (r : Row). replicate ROWS r) e

pub loop-i-preserved : goal.loop-i-preserved
loop-i-preserved c =
    let t = c.args.t.now in
    let u = c.args.used in
    let l = c.loop-i in
    let a = c.loop-i-test.true in
    let b = c.requires.0 in
    let n = rows-count t u in
    let o : c.cell_at.result.owner ≡ get_or t (l.i * CELL + OWNER) 0 = ap (λ (x : Cell). x.owner) c.cell_at.ensures in
    let k = c.requires.1 l.i a in
    let e = c.from.ensures (omega (arith, o, k)) ∙ ap (λ (x : Cell). row_in (four x)) c.cell_at.ensures ∙ cell-row t l.i ∙ row_here t l.i u a in
    ap (λ (x : List Row). set x l.i c.from.result) l.invariant ∙ padded-next (rows_in t u) l.i no_row (omega (arith, a, n)) e ROWS no_row (omega (arith, a, b))

pub returns : goal.returns
returns c =
    let t = c.args.t.now in
    let u = c.args.used in
    let l = c.loop-i in
    let n = rows-count t u in
    l.invariant ∙ ap (padded ROWS no_row) (take_all l.i (rows_in t u) (omega (arith, n, c.loop-i-test.false)))
