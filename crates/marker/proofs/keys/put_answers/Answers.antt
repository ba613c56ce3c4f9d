-- `marker::keys::put_answers` meets its contract. Assumes nothing.
use borrow.Author.Rules.{rules}
use Prim.Native.Nat.{◌+◌, ◌-◌, ◌*◌, ◌≤◌}
use mathlib.Core.Path.{◌≡◌, refl, sym, ◌∙◌, ap}
use mathlib.Core.List.{◌++◌, append-nil, append_assoc}
use native.Mathlib.Omega.{arith}
use lib.ListN.{length, take, drop, take-append-drop}
use lib.Seq.{drop-drop}
use Rattle.papers.specs.Bytes.{joined}
use Rattle.papers.specs.Answers.{reply_bytes}
use Rattle.marker.proofs.Turns.{left, left-played, tail-take, tail-drop}
use Rattle.marker.proofs.keys.put_answers.Goals as goal

pub loop-i-init : goal.loop-i-init
loop-i-init c =
    let a = c.args in
    (refl, refl, ap (λ s. joined (left s a.p.now a.n 0)) (sym c.fresh-system.ensures))

pub loop-i-preserved : goal.loop-i-preserved
loop-i-preserved c =
    let l = c.loop-i in
    let u = c.turn-answer in
    let put = c.put_reply in
    let t = c.loop-i-test.true in
    let at = 16 * l.i in
    let e = reply_bytes u.result in
    let q : 16 * (l.i + 1) ≡ at + 16 = omega arith in
    let h : at + 16 ≤ length l.out = omega (arith, l.invariant.0, c.requires, t) in
    let k : length e ≡ 16 = ap (λ x. length (reply_bytes x)) u.ensures.answer in
    let f = left-played c.args.p.now c.args.n l.i t c.event.ensures u.ensures in (
      search rules,
      rw q (tail-drop l.out e put.new.out at 16 h k put.ensures ∙ sym (drop-drop 16 at l.out) ∙ ap (drop 16) l.invariant.1 ∙ drop-drop 16 at c.args.out.now),
      rw (q, tail-take l.out e put.new.out at 16 h k put.ensures, append_assoc) (l.invariant.2 ∙ ap (λ x. take at l.out ++ joined x) f),
    )

pub returns : goal.returns
returns c =
    let a = c.args in
    let l = c.loop-i in
    let e : a.n - l.i ≡ 0 = omega arith in
    let f : 16 * l.i ≡ 16 * a.n = omega arith in
    let z : a.n - 0 ≡ a.n = omega arith in
    let w = rw (z, e, append-nil (take (16 * l.i) l.out)) at l.invariant.2 in
    sym (rw (w, ← f, ← l.invariant.1) (take-append-drop (16 * l.i) l.out))
