-- `model::steps::step` meets its contract. Assumes nothing.
use Rattle.rules.specs.Outcome.{refusal, badstate}
use Rattle.model.proofs.Readings.{refusal-small, stepped, step-refused}
use Rattle.model.proofs.steps.step.Goals as goal

pub returns-in_default : goal.returns-in_default
returns-in_default c =
    step-refused c.args.s c.args.e c.in_default.ensures (c.answer_in-answer.ensures (refusal badstate) c.reply.ensures (refusal-small badstate))

pub returns : goal.returns
returns c =
    stepped c.args.s c.args.e (c.in-Some.system.holds, c.in-Some.ensures.1) c.turn.ensures c.answer_in-answer-2.ensures c.state-state.ensures
