-- `writer::adding::add_sequence` meets its contract. Assumes nothing.
use Rattle.std.proofs.Common.{arith, rules, eq-eqb}
use Rattle.std.proofs.lemmas.Result.{err_from_is_err_and}
use Rattle.forms.specs.Adding.{sequence}
use Rattle.writer.proofs.Calls.{refused, sequence-taken}
use Rattle.writer.proofs.adding.add_sequence.Goals as goal

pub returns-in_err-check : goal.returns-in_err-check
returns-in_err-check c =
    let p = err_from_is_err_and c.from_residual.result c.from_residual.ensures.1 in
    rw (p.1, p.2) (refused c.args.w c.args.out.now (sequence c.args.s) (eq-eqb _ _ (search rules)) 16 (omega arith) c.in_err-check.ensures)

pub returns : goal.returns
returns c =
    let a = c.args in
    rw c.lay_sequence.ensures (sequence-taken a.w a.out.now a.s (eq-eqb _ _ (search rules)) c.in_ok-check.ensures)
