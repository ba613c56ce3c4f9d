-- `calls::child::put_reactions` meets its contract. Assumes nothing.
use Prim.Native.Nat.{◌+◌, ◌<◌}
use native.Mathlib.Omega.{arith}
use mathlib.Core.Path.{◌≡◌, ap, ◌∙◌}
use borrow.Author.Tests.{eq-eqb, ne_eqb}
use Rattle.rules.specs.Calls.{child_reaction}
use Rattle.places.specs.Places.{PLACE, REACTIONS}
use Rattle.calls.specs.Making.{reaction_in, run}
use Rattle.calls.proofs.Making.{read-ahead, run_more}
use Rattle.calls.proofs.child.put_reactions.Goals as goal
use Rattle.calls.proofs.child.put_reactions.Goals.{then-k-eq-KILL, else-k-eq-KILL}

pub loop-k-preserved : goal.loop-k-preserved
loop-k-preserved c =
    let a = c.args in
    let d = a.m.now in
    let k = c.loop-k.k in
    let g = reaction_in a.d1 a.d2 d a.i in
    let b : REACTIONS + k < PLACE = omega arith in
    let r : c.if-k-eq-KILL.r ≡ g k = elim c.if-k-eq-KILL.branch [
      | then-k-eq-KILL w ↦ rw (eq-eqb _ _ w.if-k-eq-KILL.true) w.r-is
      | else-k-eq-KILL w ↦ rw (ne_eqb _ _ w.if-k-eq-KILL.false) (w.r-is ∙ w.child_reaction-r.ensures ∙ ap (child_reaction a.d1 a.d2 k) (w.of.ensures ∙ read-ahead d a.i a.j (run REACTIONS g k) (REACTIONS + k) c.loop-k.invariant c.requires.0 b))
    ] in
    c.set.ensures ∙ run_more d REACTIONS g a.j k c.loop-k.invariant r
