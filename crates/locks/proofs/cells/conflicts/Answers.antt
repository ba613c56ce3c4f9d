-- `cells::conflicts` meets its contract. Assumes nothing.
use Rattle.std.proofs.Common.{sym, ◌∙◌, arith, ◌≡◌, false, inl, inr}
use Rattle.std.proofs.lemmas.Grind.{common_steps}
use Rattle.locks.specs.Rows.{conflict}
use Rattle.locks.proofs.Telling.{other-sequence, no-sequence, calm-owner, calm-shared, by-sequence}
use Rattle.locks.proofs.cells.conflicts.Goals as goal

pub returns-then-b-lt-SHARED : goal.returns-then-b-lt-SHARED
returns-then-b-lt-SHARED c = λ p q x y. c.same_sequence.ensures p q x y ∙ sym (by-sequence x y (λ e. omega (arith, e)) (λ f g. omega (arith, f, g)))

pub returns-else-b-lt-SHARED : goal.returns-else-b-lt-SHARED
returns-else-b-lt-SHARED c = λ p q x y.
    let h : conflict p q ≡ false =
    elim c.if-b-lt-SHARED.either [
      | inl w ↦ calm-shared x y w.2 w.3
      | inr v ↦ elim v [ inl w ↦ calm-owner x y w.1 | inr d ↦ (no-sequence x y (other-sequence x y (λ f _ _. d f))).1 ]
    ] in
    grind (arith, common_steps, h)
