-- `soundness::process::is_addressed` meets its contract: the traps before place i fit. Assumes nothing.
use Rattle.std.proofs.Common.{rules, ◌≡◌, ◌∙◌, ◌+◌, ◌<◌, ◌/◌, ◌%◌, ◌^◌, ℕ, true, ◌&&◌, ◌||◌, List, length, get_or, drop, drop_of_length-le, drop-cons, add-one, arith, eq-eqb, ne_eqb, sym}
use Rattle.locks.specs.Lists.{bit, is_zero}
use Rattle.rules.specs.Sound.{addressed}
use Rattle.soundness.proofs.process.is_addressed.Goals as goal
use Rattle.soundness.proofs.process.is_addressed.Goals.{else-pending-i-eq0-via-then-pending-i-eq0+else-a-ne0, else-pending-i-eq0-via-else-pending-i-eq0}

next : (pending i : ℕ) (traps : List ℕ) → i < length traps → addressed pending i (drop i traps) ≡ ((bit i pending || is_zero (get_or traps i 0)) && addressed pending (i + 1) (drop (i + 1) traps))
unfolding addressed
next pending i traps l = rw (add-one i, drop-cons traps i 0 l)

pub returns-then-a-ne0 : goal.returns-then-a-ne0
returns-then-a-ne0 c =
    let a = c.args in
    let n : length a.traps ≡ 7 = search rules in
    let l : c.loop-i.i < length a.traps = omega arith in
    sym (c.loop-i.invariant ∙ next a.pending c.loop-i.i a.traps l ∙ rw (c.if-pending-i-eq0.true, ne_eqb _ _ c.if-a-ne0.true))

pub loop-i-preserved : goal.loop-i-preserved
loop-i-preserved c =
    let a = c.args in
    let i = c.loop-i.i in
    let n : length a.traps ≡ 7 = search rules in
    let l : i < length a.traps = omega arith in
    let fits : (bit i a.pending || is_zero (get_or a.traps i 0)) ≡ true = elim c.else-pending-i-eq0.branch [
      | else-pending-i-eq0-via-then-pending-i-eq0+else-a-ne0 w ↦ rw (w.if-pending-i-eq0.true, eq-eqb _ _ w.if-a-ne0.false)
      | else-pending-i-eq0-via-else-pending-i-eq0 w ↦ rw (eq-eqb (a.pending / 2 ^ i % 2) 1 (omega arith))
    ] in
    c.loop-i.invariant ∙ next a.pending i a.traps l ∙ rw fits

pub returns : goal.returns
unfolding addressed
returns c =
    let a = c.args in
    let n : length a.traps ≡ 7 = search rules in
    sym (c.loop-i.invariant ∙ rw (drop_of_length-le a.traps {i = c.loop-i.i} (omega arith)))
