-- Calls that touch the process at one place alone. Assumes nothing.
use Prim.Native.Nat.{ℕ, ◌+◌, ◌*◌, ◌<◌}
use native.Mathlib.Omega.{arith}
use mathlib.Core.Path.{◌≡◌, refl, sym, ap, ◌∙◌}
use mathlib.Core.Bool.{true}
use mathlib.Core.List.{List}
use lib.Dec.{eqb}
use lib.ListN.{length, get_or}
use Rattle.rules.specs.State.{no_process, privileged}
use Rattle.rules.specs.Outcome.{Outcome, refusal}
use Rattle.rules.specs.declared.outcome.Refusal.{Refusal}
use Rattle.std.specs.Prelude.{Err}
use Rattle.rules.specs.declared.state.Process.{Process}
use Rattle.rules.specs.declared.state.Answer.{Answer}
use Rattle.locks.specs.Pieces.{changes, stores, within}
use Rattle.places.specs.Places.{PENDING, PID, PLACE, USER, Procs, Turns, numbers, whole}
use Rattle.places.specs.Settled.{Does, own_answer, process_after, told}
use Rattle.rules.specs.Reply.{four_of}
use Rattle.places.proofs.Laying.{procs-get}
use Rattle.places.proofs.Turning.{at-whole, turned, unturned}

-- what m tells of the process at place i
pub record Here (m : List ℕ) (i : ℕ) (p : Process) : Type 0 where
  pub whole : whole p ≡ true
  pub get : (k : ℕ) → k < PLACE → get_or m (i * PLACE + k) 0 ≡ get_or (numbers p) k 0

module _ {m : List ℕ} {i : ℕ} where
  here : {ps : List Process} {used next : ℕ} → Procs m ps used next → i < length ps → Here m i (get_or ps i no_process)
  here l h = record { whole = at-whole l h; get = procs-get l i h }

  -- stores to its fields
  pub turns : (f : Process → Process) (ss : List (ℕ × ℕ)) → within PLACE ss ≡ true → ((p : Process) → Here m i p → (changes (numbers p) ss ≡ numbers (f p)) × (whole (f p) ≡ true)) → Turns f m i (stores PLACE m i ss)
  turns f ss b g = record { is = λ {ps} l h. let x = g (get_or ps i no_process) (here l h) in turned l h f ss b x.0 x.1 }

  -- and none
  pub still : Turns (λ p. p) m i m
  still = record { is = λ l h. unturned l h (λ p. p) refl }

  -- f is what the call makes of it, and a the answer
  pub does : {o : Process → Outcome Process} {f : Process → Process} {out after : List ℕ} (a : Answer) → Turns f m i after → out ≡ four_of a
      → ((p : Process) → Here m i p → (process_after p (o p) ≡ f p) × (own_answer (o p) ≡ a)) → Does o m i out after
  does a t e g = record { is = λ {ps} l h. let x = g (get_or ps i no_process) (here l h) in (rw x.0 (t.is l h), e ∙ ap four_of (sym x.1)) }

  -- refused by each such process
  pub refuses : {o : Process → Outcome Process} (r : Refusal) → ((p : Process) → Here m i p → (process_after p (o p) ≡ p) × (own_answer (o p) ≡ refusal r)) → Does o m i (told (Err r)) m
  refuses r g = does (refusal r) still refl g

  -- the effective user id tells who is privileged
  pub privileged-is : {p : Process} {x : ℕ} → Here m i p → x ≡ get_or m (i * PLACE + USER) 0 → privileged p ≡ eqb x 0
  unfolding numbers
  privileged-is l e = ap (λ n. eqb n 0) (sym (e ∙ l.get USER (omega arith)))

  pub pid-is : {p : Process} {x : ℕ} → Here m i p → x ≡ get_or m (i * PLACE + PID) 0 → x ≡ p.pid
  unfolding numbers
  pid-is l e = e ∙ l.get PID (omega arith)

  pub pending-is : {p : Process} {x : ℕ} → Here m i p → x ≡ get_or m (i * PLACE + PENDING) 0 → x ≡ p.signals.pending
  unfolding numbers
  pending-is l e = e ∙ l.get PENDING (omega arith)
