-- `cells::has_twin` meets its contract. Assumes nothing.
use Rattle.std.proofs.Common.{◌≡◌, ◌<◌, true, false, length, get_or, refl, arith, rules}
use Rattle.std.proofs.lemmas.Iterator.{cases_from_any, YieldsList-from_range}
use Rattle.locks.specs.Rows.{no_row, twin, has_twin}
use Rattle.locks.proofs.Loops.{any-range}
use Rattle.locks.proofs.cells.has_twin.Goals as goal

pub returns : goal.returns
unfolding has_twin
returns c =
    λ rows r l e x.
    let f = twin r in
    any-range f rows no_row e
    (cases_from_any _ _ c.any.result (λ k. k < length rows → true ≡ f (get_or rows k no_row)) (λ k. k < length rows → false ≡ f (get_or rows k no_row))
    c.any.ensures.ran (YieldsList-from_range 0 c.args.used c.args.used refl (omega arith)) (λ k s h i. let y = l.tells k i in search rules) (λ k s h. search rules))
