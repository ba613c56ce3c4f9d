-- `soundness::state::are_unused` meets its contract. Assumes nothing.
use Rattle.std.proofs.Common.{rules, ◌≡◌, ◌∙◌, true, sym}
use borrow.Author.Tests.{tests}
use Rattle.std.proofs.lemmas.Iterator.{YieldsList-from_slice}
use Rattle.std.proofs.lemmas.Iterator.Search.{all_from_yields_List}
use Rattle.locks.specs.Lists.{all}
use Rattle.locks.specs.Rows.{zero_row}
use Rattle.rules.specs.Sound.{zero_process}
use Rattle.soundness.proofs.Lists.{all_same}
use Rattle.soundness.proofs.state.are_unused.Goals as goal

pub returns-then-all : goal.returns-then-all
returns-then-all c =
    let ps = c.args.procs.now in
    let rows = c.args.rows.now in
    let p = all_from_yields_List zero_process _ _ c.all.result c.all.ensures.ran (YieldsList-from_slice ps cc) (λ x b q k. search (rules, tests)) in
    let z : all zero_process ps ≡ true = sym (all_same zero_process ps) ∙ sym p ∙ c.if-all.true in
    rw z (all_from_yields_List zero_row _ _ _ c.all-then-all.ensures.ran (YieldsList-from_slice rows cc) (λ x b q k. search (rules, tests)) ∙ all_same zero_row rows)
