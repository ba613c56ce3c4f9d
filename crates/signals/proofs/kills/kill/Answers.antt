use mathlib.Core.Bool.{true, false, not}
use mathlib.Core.Path.{◌≡◌, refl, sym, ◌∙◌}
use Rattle.std.proofs.lemmas.Result.{err_from_is_err_and}
use borrow.Author.Rules.{rules}
use Rattle.locks.specs.Lists.{between}
use Rattle.locks.proofs.Tests.{or_right}
use Rattle.places.proofs.Laying.{housed}
use Rattle.signals.proofs.Killing.{bad-signal, kill-absent, kill-first, kill-foreign, kill-outside, kill-sent, may-any, may-not, may-own, outside}
use Rattle.signals.proofs.kills.kill.Goals as goal
use Rattle.signals.proofs.kills.kill.Goals.{else-user-ne0-via-then-user-ne0+else-user-of, else-user-ne0-via-else-user-ne0}

pub returns-in_err-signal : goal.returns-in_err-signal
returns-in_err-signal c = λ e x y.
    let p = err_from_is_err_and c.from_residual.result c.from_residual.ensures.1 in
    let k = c.in_err-signal.ensures in
    rw (p.1, p.2, k.0) (kill-outside c.requires e x y (bad-signal c.args.d2 c.args.d3 k.1) refl)

pub returns-then-not-contains : goal.returns-then-not-contains
returns-then-not-contains c =
    let h : outside c.args.d2 c.args.d3 ≡ true = or_right (not (between 1 7 c.args.d2)) _ (search rules) in
    λ e x y. kill-outside c.requires e x y h refl

pub find-requires : goal.find-requires
find-requires c = housed c.requires.laid.lays.procs

pub returns-in_default : goal.returns-in_default
returns-in_default c =
    let h : outside c.args.d2 c.args.d3 ≡ false = search rules in
    λ e x y. kill-absent c.requires e x y h c.in_default.ensures refl refl

pub returns-then-user-of : goal.returns-then-user-of
returns-then-user-of c =
    let h : outside c.args.d2 c.args.d3 ≡ false = search rules in
    let k = c.in-Some.ensures in
    λ e x y. kill-foreign c.requires e x y h k.1 k.0 (may-not c.requires c.of-user.ensures k.0 c.of.ensures c.if-user-ne0.true c.if-user-of.true) refl

pub send-requires : goal.send-requires
send-requires c = let k = c.in-Some.ensures in (c.requires, k.0, kill-first c.requires.laid c.args.d3 k.1 k.0)

pub returns : goal.returns
returns c =
    let h : outside c.args.d2 c.args.d3 ≡ false = search rules in
    let k = c.in-Some.ensures in
    let u = c.of-user.ensures in
    λ e x y.
    kill-sent c.requires e (x ∙ sym c.in_ok-signal.ensures.0) y (rw c.in_ok-signal.ensures.0 h) k.1 k.0
    (elim c.else-user-ne0.branch [
      | else-user-ne0-via-then-user-ne0+else-user-of w ↦ may-own c.requires u k.0 w.of.ensures w.if-user-of.false
      | else-user-ne0-via-else-user-ne0 w ↦ may-any c.requires u _ w.if-user-ne0.false
    ]) c.send.ensures
