-- `soundness::process::reactions_fit` meets its contract: the reactions one by one. Assumes nothing.
use Rattle.std.proofs.Common.{rules, ◌≡◌, ◌∙◌, [], ◌∷◌, length, arith, take_all, eqb, sym, ap, eq-eqb, ne_eqb}
use Rattle.std.specs.Cmp.Lexicographic.{pointwise}
use Rattle.rules.specs.Sound.{reactions_fit}
use Rattle.locks.proofs.Bytes.{bytes_from, bytes-from}
use Rattle.soundness.proofs.process.reactions_fit.Goals as goal

pub returns-then-pid-ne1 : goal.returns-then-pid-ne1
unfolding reactions_fit
returns-then-pid-ne1 c = rw (eq-eqb _ _ c.if-r-eq0.true, ne_eqb _ _ c.if-pid-ne1.true)

pub returns-else-pid-ne1 : goal.returns-else-pid-ne1
unfolding reactions_fit
returns-else-pid-ne1 c =
    let r = c.args.r in
    let l : length r ≡ 7 = search rules in
    let e : r ≡ bytes_from 7 0 r = sym (bytes-from 7 0 r (omega arith) ∙ take_all 7 r (omega arith)) in
    c.eq.ensures ∙ ap (λ xs. pointwise eqb xs (1 ∷ 1 ∷ 0 ∷ 1 ∷ 1 ∷ 1 ∷ 1 ∷ [])) e ∙ rw (eq-eqb _ _ c.if-r-eq0.true, eq-eqb _ _ c.if-pid-ne1.false)

pub returns-else-r-eq0 : goal.returns-else-r-eq0
unfolding reactions_fit
returns-else-r-eq0 c = rw (ne_eqb _ _ c.if-r-eq0.false)
