-- `calls::own::take` meets its contract. Assumes nothing.
use Prim.Native.Nat.{ℕ, ◌+◌, ◌%◌, ◌*◌, ◌^◌}
use native.Mathlib.Omega.{arith}
use mathlib.Core.Path.{refl, sym, ap, ◌∙◌}
use mathlib.Core.List.{List}
use lib.Bits.{bit_xor}
use lib.Count.{count_trailing_zeros}
use lib.ListN.{set}
use borrow.Author.Tests.{eq-eqb}
use Rattle.rules.specs.Signals.{taken}
use Rattle.places.specs.Places.{PENDING, PLACE, TRAPS, Turns}
use Rattle.places.specs.Settled.{answer_of}
use Rattle.places.proofs.Turning.{turn_is}
use Rattle.calls.proofs.Doing.{still, does, pending-is}
use Rattle.calls.proofs.Handing.{low, handing, handed, handed-address, handed-none, turn-handed, turn-none}
use Rattle.calls.proofs.own.take.Goals as goal
use Rattle.calls.proofs.own.take.Goals.{else-k-lt7, then-k-lt7}

pub returns-then-pending-eq0 : goal.returns-then-pending-eq0
unfolding taken
returns-then-pending-eq0 c =
    does (answer_of 0 0 0 0) still c.plain.ensures
    (λ p l. rw (eq-eqb p.signals.pending 0 (sym (pending-is l c.of-pending.ensures) ∙ c.if-pending-eq0.true)) (refl, refl))

pub returns : goal.returns
returns c =
    let r = c.of-pending.result in
    let k = count_trailing_zeros 8 r in
    let v = bit_xor r ((1 * 2 ^ k) % 2 ^ 8) in
    let i = c.args.i in
    let t : Turns (handing k v) c.args.m.now i c.set.new.m =
    elim c.if-k-lt7.branch [ then-k-lt7 w ↦ turn_is (c.set.ensures ∙ ap (λ (n : List ℕ). set n (i * PLACE + PENDING) v) (w.m-is ∙ ap (λ (x : ℕ). set c.args.m.now (i * PLACE + (TRAPS + k)) x) w.take-a.ensures.after)) (turn-handed k v w.if-k-lt7.true) | else-k-lt7 w ↦ turn_is (c.set.ensures ∙ ap (λ (n : List ℕ). set n (i * PLACE + PENDING) v) w.m-is) (turn-none k v w.if-k-lt7.false) ] in
    does (answer_of 0 0 (k + 1) c.if-k-lt7.a) t c.plain-2.ensures
    (λ p l.
    handed p r c.if-k-lt7.a (pending-is l c.of-pending.ensures) c.if-pending-eq0.false (low c.of-pending.result c.if-pending-eq0.false (omega arith))
    (elim c.if-k-lt7.branch [ then-k-lt7 w ↦ handed-address l k w.if-k-lt7.true (w.a-is ∙ w.take-a.ensures.value) | else-k-lt7 w ↦ handed-none l k w.if-k-lt7.false w.a-is ]))
