-- `turns::turns::outcome` meets its contract. Assumes nothing.
use Rattle.std.proofs.Common.{refl, ap}
use Rattle.std.proofs.lemmas.Result.{err_from_is_err_and}
use Rattle.locks.specs.Lists.{between}
use Rattle.places.proofs.Laying.{housed}
use Rattle.turns.proofs.Acting.{bad_kind, caller-acts, caller-sleeps, no-caller, of-caller, ticks}
use Rattle.turns.proofs.Border.{calls, holds-machine, is-asleep, is-awake, is-caller, is_live, not_live}
use borrow.Author.Tests.{eq-eqb}
use Rattle.turns.proofs.turns.outcome.Goals as goal

pub returns-in_err-try_from : goal.returns-in_err-try_from
returns-in_err-try_from c =
    let p = err_from_is_err_and c.from_residual.result c.from_residual.ensures.1 in
    let k = c.in_err-try_from.ensures in
    rw (p.1, p.2, k.0) (bad_kind c.args.e k.1 c.requires.laid.lays refl)

pub tick-requires : goal.tick-requires
tick-requires c = (c.requires.laid, holds-machine c.requires)

pub returns-in-Tick : goal.returns-in-Tick
returns-in-Tick c =
    let k = rw c.in-Tick.is at c.in_ok-try_from.ensures in
    ticks c.args.e (ap (between 1 4) k) (eq-eqb c.args.e.kind 2 k) c.tick.ensures

pub find-requires : goal.find-requires
find-requires c = housed c.requires.laid.lays.procs

pub returns-in_default : goal.returns-in_default
returns-in_default c =
    let e = c.args.e in
    let k = of-caller e.kind _ (rw c.in-OfCaller.is at c.in_ok-try_from.ensures) in
    no-caller e k.0 k.1 (not_live c.requires e.caller c.in_default.ensures) c.requires.laid.lays refl

pub returns-then-of-ne-AWAKE : goal.returns-then-of-ne-AWAKE
returns-then-of-ne-AWAKE c =
    let e = c.args.e in
    let h = c.requires in
    let f = c.in-Some.ensures in
    let k = of-caller e.kind _ (rw c.in-OfCaller.is at c.in_ok-try_from.ensures) in
    caller-sleeps e k.0 k.1 (is_live h e.caller f.0 f.1) (is-caller h e.caller f.0 f.1) (is-asleep h e.caller f.0 f.1 c.of.ensures c.if-of-ne-AWAKE.true) h.laid.lays refl

pub act-requires : goal.act-requires
act-requires c =
    let f = c.in-Some.ensures in
    (calls c.requires c.args.e.caller f.0 f.1 c.of.ensures c.if-of-ne-AWAKE.false, rw c.in-OfCaller.is at c.in_ok-try_from.ensures)

pub returns : goal.returns
returns c =
    let e = c.args.e in
    let h = c.requires in
    let f = c.in-Some.ensures in
    let k = of-caller e.kind _ (rw c.in-OfCaller.is at c.in_ok-try_from.ensures) in
    caller-acts e k.0 k.1 (is_live h e.caller f.0 f.1) (is-caller h e.caller f.0 f.1) (is-awake h e.caller f.0 f.1 c.of.ensures c.if-of-ne-AWAKE.false) c.act.ensures
