-- `cells::is_gone` meets its contract. Assumes nothing.
use mathlib.Core.Path.{refl, sym, ◌∙◌}
use lib.ListN.{take}
use Rattle.locks.proofs.Telling.{tells-owner}
use Rattle.locks.proofs.Gaps.{by-none}
use Rattle.locks.specs.Rows.{goes, twin, waits_of}
use borrow.Author.Tests.{eq-eqb}
use Rattle.locks.proofs.cells.is_gone.Goals as goal

pub returns-then-x-c : goal.returns-then-x-c
returns-then-x-c c =
    let a = c.args in
    λ rows r q l h n x. by-none a.part r (take a.k rows) q (λ e. c.if-x-c.true (tells-owner x ∙ e ∙ sym n.owner)) refl

pub returns-in-Twin : goal.returns-in-Twin
unfolding goes twin
returns-in-Twin c =
    let e = c.in-Twin.is in
    λ rows r q l h n x. rw (e, eq-eqb q.owner r.owner (sym (tells-owner x) ∙ c.if-x-c.false ∙ n.owner)) (c.same_sequence.ensures r q (n.whole e) x)

pub returns-in-All : goal.returns-in-All
unfolding goes
returns-in-All c = λ rows r q l h n x. rw (c.in-All.is, eq-eqb q.owner r.owner (sym (tells-owner x) ∙ c.if-x-c.false ∙ n.owner))

pub returns-in-Waiting : goal.returns-in-Waiting
unfolding goes waits_of
returns-in-Waiting c = λ rows r q l h n x.
    rw (c.in-Waiting.is, eq-eqb q.owner r.owner (sym (tells-owner x) ∙ c.if-x-c.false ∙ n.owner)) (c.waits_behind.ensures rows q l h x)
