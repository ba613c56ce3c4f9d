-- `calls::own::report` meets its contract. Assumes nothing.
use mathlib.Core.Path.{refl, sym, ◌∙◌}
use native.Mathlib.Omega.{arith}
use Rattle.rules.specs.Step.{reported}
use Rattle.places.specs.Places.{LEFT, WAKE, numbers}
use Rattle.places.specs.Settled.{answer_of}
use Rattle.calls.proofs.Doing.{still, does}
use Rattle.calls.proofs.own.report.Goals as goal

pub returns : goal.returns
unfolding reported numbers
returns c =
    does (answer_of 0 0 c.of.result c.of-2.result) still c.plain.ensures
    (λ p l. (refl, λ j. answer_of 0 0 (sym (c.of.ensures ∙ l.get LEFT (omega arith)) j) (sym (c.of-2.ensures ∙ l.get WAKE (omega arith)) j)))
