-- `writer::adding::add_event` meets its contract. Assumes nothing.
use Rattle.std.proofs.Common.{refl, arith, rules}
use Rattle.std.proofs.lemmas.Result.{err_from_is_err_and}
use Rattle.forms.specs.Adding.{event}
use Rattle.forms.proofs.Calls.{few}
use Rattle.writer.proofs.Calls.{passed, refused, event-taken}
use Rattle.writer.proofs.adding.add_event.Goals as goal

pub returns-in_err-check : goal.returns-in_err-check
returns-in_err-check c =
    let p = err_from_is_err_and c.from_residual.result c.from_residual.ensures.1 in
    rw (p.1, p.2) (refused c.args.w c.args.out.now (event c.args.e) refl 20 (omega arith) c.in_err-check.ensures)

pub lay_event-requires : goal.lay_event-requires
lay_event-requires c =
    let a = c.args in
    let p = passed a.w a.out.now _ _ _ c.in_ok-check.ensures in
    (search rules, few a.w a.out.now p.whole, omega arith)

pub returns : goal.returns
returns c =
    let a = c.args in
    rw c.lay_event.ensures (event-taken a.w a.out.now (search rules) a.e c.in_ok-check.ensures)
