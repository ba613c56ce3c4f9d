use Prim.Native.Nat.{◌<◌}
use native.Mathlib.Omega.{arith}
use mathlib.Core.Path.{◌≡◌, refl, sym, ◌∙◌}
use borrow.Author.Tests.{eq-eqb, ne_eqb}
use Rattle.signals.proofs.Comparing.{compare, compared, comparing, before-get, before-live, up-absent}
use Rattle.signals.proofs.masks.Before.settle.Goals as goal
use Rattle.signals.proofs.masks.Before.settle.Goals.{in-Some, in-Some+else-is_up, in-None}

pub loop-past-init : goal.loop-past-init
loop-past-init c = comparing _ _

pub loop-past-preserved : goal.loop-past-preserved
loop-past-preserved c =
    let v = c.loop-past.invariant in
    let n = before-live c.args.self.now c.processes-past-items.ensures (omega arith) in
    let l : c.loop-past.past-index < c.args.self.now.live = omega arith in
    let q = before-get c.args.self.now c.processes-past-items.ensures l in
    elim c.match-find.branch [
      | in-Some w ↦
          let b = w.in-Some.ensures in
          compare v l q (omega (arith, b.0)) b.1 w.woken-is (omega (arith, w.ended-is)) (sym w.if-is_up.true ∙ w.is_up.ensures) (sym (ne_eqb _ _ (λ (e : w.in-Some.k ≡ _). omega (arith, b.0))))
      | in-Some+else-is_up w ↦
          let b = w.in-Some.ensures in
          compare v l q (omega (arith, b.0)) b.1 (omega (arith, w.woken-is)) (omega (arith, w.ended-is)) (sym w.if-is_up.false ∙ w.is_up.ensures) (sym (ne_eqb _ _ (λ (e : w.in-Some.k ≡ _). omega (arith, b.0))))
      | in-None w ↦ compare v l q (omega arith) (w.in-None.ensures) (omega (arith, w.woken-is)) w.ended-is (up-absent c.requires _ _ refl) (sym (eq-eqb _ _ refl))
    ]

pub returns : goal.returns
returns c =
    let n = before-live c.args.self.now c.processes-past-items.ensures (omega arith) in
    compared c.loop-past.invariant (omega arith) _ c.with_masks.ensures
