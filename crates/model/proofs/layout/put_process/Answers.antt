-- `model::layout::put_process` meets its contract. Assumes nothing.
use borrow.Author.Tests.{eq-eqb}
use Rattle.places.specs.Places.{whole}
use Rattle.model.proofs.Putting.{thin}
use Rattle.model.proofs.layout.put_process.Goals as goal

pub returns : goal.returns
unfolding whole
returns c =
    let a = c.put_seven-2.ensures in
    let b = c.put_seven.ensures in
    let g = c.put_three-2.ensures in
    let u = c.put_three.ensures in
    (rw (eq-eqb _ 7 b.0, eq-eqb _ 7 a.0, thin u.0, thin g.0), rw (a.1, b.1, g.1, u.1, c.put_plain.ensures))
