-- The answers of the rules fit their bytes. Assumes nothing.
use Prim.Native.Nat.{◌≤◌}
use native.Mathlib.Omega.{arith}
use mathlib.Core.Path.{◌≡◌}
use mathlib.Core.Bool.{true, false, and-eq-true_iff}
use lib.ListN.{length, length-take}
use borrow.Author.Tests.{leb-true}
use Rattle.locks.proofs.Tests.{cases}
use Rattle.rules.specs.State.{Machine, view}
use Rattle.rules.specs.Sound.{sound}
use Rattle.rules.specs.Outcome.{badstate, refusal, Outcome, refused, answered, when, either}
use Rattle.rules.specs.declared.outcome.Refusal.{Refusal}
use Rattle.rules.proofs.Numbers.{mask-small, number-small}
use Rattle.rules.specs.Step.{woken_mask, ended_mask, outcome, settled, step_of}
use Rattle.rules.specs.declared.state.State.{State}
use Rattle.rules.specs.declared.state.Event.{Event}
use Rattle.papers.specs.Answers.{answer_bytes, reply_bytes, Fitting}
use Rattle.rules.specs.Reply.{four_of}
use Rattle.papers.proofs.Replies.{reply-answer}

refusal-fits : (r : Refusal) → Fitting (refusal r)
refusal-fits r = record { number = number-small r; woken = omega arith; ended = omega arith }

settled-fits : (s : State) → length (view s).procs ≤ 16 → (o : Outcome Machine) → Fitting (settled s o).answer
unfolding settled woken_mask ended_mask
settled-fits s l (refused r) = refusal-fits r
settled-fits s l (answered k d3 a0 m) = record { number = omega arith; woken = mask-small _ (view s).procs l; ended = mask-small _ (view s).procs l }
settled-fits s l (when true r o) = refusal-fits r
settled-fits s l (when false r o) = settled-fits s l o
settled-fits s l (either true x y) = settled-fits s l x
settled-fits s l (either false x y) = settled-fits s l y

sound-few : (s : State) → sound s ≡ true → length (view s).procs ≤ 16
unfolding sound view
sound-few s h =
    let t = simp and-eq-true_iff at h in
    let l : s.live ≤ 16 = leb-true s.live 16 t.0.0.0.0.1 in
    rw (length-take s.live s.procs) (omega arith)

pub answer-fits : (s : State) (e : Event) → Fitting (step_of s e).answer
unfolding step_of settled
answer-fits s e =
    cases (sound s)
    (λ h. rw h (settled-fits s (sound-few s h) (outcome e (view s))))
    (λ h. rw h (refusal-fits badstate))

-- so their four numbers have their bytes
pub reply-step : (s : State) (e : Event) → reply_bytes (four_of (step_of s e).answer) ≡ answer_bytes (step_of s e).answer
reply-step s e = reply-answer (step_of s e).answer (answer-fits s e)
