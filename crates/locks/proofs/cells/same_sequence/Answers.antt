-- `cells::same_sequence` meets its contract. Assumes nothing.
use Rattle.std.proofs.Common.{arith, ◌≡◌, false}
use Rattle.std.proofs.lemmas.Grind.{common_steps}
use Rattle.locks.specs.Rows.{same_sequence}
use Rattle.locks.proofs.Telling.{other-sequence, rest-sequence}
use Rattle.locks.proofs.cells.same_sequence.Goals as goal
use Rattle.locks.proofs.cells.same_sequence.Goals.{then-a-b, else-a-b}

pub returns-then-a-b-2 : goal.returns-then-a-b-2
returns-then-a-b-2 c = λ p q x y. rest-sequence x y c.if-a-b-2.true.0 c.if-a-b-2.true.1

pub returns-else-a-b-2 : goal.returns-else-a-b-2
returns-else-a-b-2 c = λ p q x y. let h : same_sequence p q ≡ false = other-sequence x y (λ f g _. omega (arith, f, g)) in grind (arith, common_steps, h)
