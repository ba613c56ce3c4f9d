-- `turns::turns::act` meets its contract. Assumes nothing.
use Rattle.std.proofs.Common.{refl, sym, ◌∙◌, arith}
use Rattle.places.specs.Settled.{asker}
use Rattle.places.proofs.Callings.{calls-fits}
use Rattle.turns.proofs.Acting.{act-call, act-report, act-take, act-trap, caller-pending, pending-small}
use Rattle.turns.proofs.Owning.{report-settled, take-settled}
use Rattle.turns.proofs.turns.act.Goals as goal

pub take-requires : goal.take-requires
take-requires c = (calls-fits c.requires.0, pending-small c.requires.0)

pub returns-in-Take : goal.returns-in-Take
returns-in-Take c =
    let k = rw c.in-Take.is at c.requires.1 in
    act-take (asker c.args.arrays.now c.args.i) c.args.e k (take-settled c.requires.0 c.take.ensures)

pub returns-in-Report : goal.returns-in-Report
returns-in-Report c =
    let k = rw c.in-Report.is at c.requires.1 in
    act-report (asker c.args.arrays.now c.args.i) c.args.e (omega arith) (omega arith) (report-settled c.requires.0 c.report.ensures)

pub returns-then-of-ne0 : goal.returns-then-of-ne0
returns-then-of-ne0 c =
    let k = rw c.in-Call.is at c.requires.1 in
    act-trap (asker c.args.arrays.now c.args.i) c.args.e k (λ z. c.if-of-ne0.true (sym (caller-pending c.requires.0 c.of.ensures) ∙ z)) c.requires.0.laid.lays refl

pub returns-else-of-ne0 : goal.returns-else-of-ne0
returns-else-of-ne0 c =
    let k = rw c.in-Call.is at c.requires.1 in
    act-call (asker c.args.arrays.now c.args.i) c.args.e k (caller-pending c.requires.0 c.of.ensures ∙ c.if-of-ne0.false) c.call.ensures
