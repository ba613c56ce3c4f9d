-- A second of one process, by stores to its numbers. Assumes nothing.
use Prim.Native.Nat.{ℕ, ◌+◌, ◌-◌, ◌*◌, ◌<◌}
use native.Mathlib.Omega.{arith}
use mathlib.Core.Path.{◌≡◌, refl, sym, ap, ◌∙◌}
use mathlib.Core.Bool.{Bool, true, false}
use mathlib.Core.List.{List, ◌∷◌, []}
use lib.ListN.{length, get_or, set}
use borrow.Author.Tests.{eq-eqb, ne_eqb}
use Rattle.rules.specs.State.{no_process, woken_by, with_alarm, asleep_for, sleeps}
use Rattle.rules.specs.Clock.{slept}
use Rattle.rules.specs.declared.state.Process.{Process}
use Rattle.rules.proofs.Courses.{slept-alarm}
use Rattle.places.specs.Places.{wakes_by}
use Rattle.signals.proofs.Seconds.{second}
use Rattle.places.specs.Places.{ALARM, LEFT, PLACE, Procs, SECONDS, SLEEP, Turns, WAKE, numbers, waked, whole}
use Rattle.locking.proofs.Sweep.{calm}
use Rattle.places.proofs.Laying.{procs-get}
use Rattle.places.proofs.Turning.{at-whole, turned, unturned}

-- ---- a second

module _ {m : List ℕ} {i x : ℕ} (e : x ≡ get_or m (i * PLACE + SLEEP) 0) where
  module _ {ps : List Process} {used next : ℕ} (l : Procs m ps used next) (h : i < length ps) where
    kind : (get_or ps i no_process).rest.sleep ≡ x
    unfolding numbers
    kind = sym (e ∙ procs-get l i h 9 (omega arith))

    pub awake-same : (x ≡ 3 → ⊥) → slept (get_or ps i no_process) ≡ get_or ps i no_process
    unfolding slept
    awake-same d = rw (ne_eqb (get_or ps i no_process).rest.sleep 3 (λ g. d (sym kind ∙ g)))

    module _ {y : ℕ} (g : y ≡ get_or m (i * PLACE + SECONDS) 0) (z : x ≡ 3) where
      left : (get_or ps i no_process).rest.seconds ≡ y
      unfolding numbers
      left = sym (g ∙ procs-get l i h 11 (omega arith))

      pub last-second : y ≡ 1 → slept (get_or ps i no_process) ≡ woken_by 3 0 (get_or ps i no_process)
      unfolding slept
      last-second o = rw (eq-eqb (get_or ps i no_process).rest.sleep 3 (kind ∙ z), eq-eqb (get_or ps i no_process).rest.seconds 1 (left ∙ o))

      pub less-second : (y ≡ 1 → ⊥) → slept (get_or ps i no_process) ≡ asleep_for 3 (y - 1) (get_or ps i no_process)
      unfolding slept
      less-second o = rw (eq-eqb (get_or ps i no_process).rest.sleep 3 (kind ∙ z), ne_eqb (get_or ps i no_process).rest.seconds 1 (λ j. o (sym left ∙ j)), left)

-- what is promised of one second
abbrev Passes : List ℕ → ℕ → List ℕ → Bool → Type 0
Passes m i after b = Turns slept m i after × ((ps : List Process) (used next : ℕ) → Procs m ps used next → i < length ps → b ≡ wakes_by slept (get_or ps i no_process))

module _ {m : List ℕ} {i x : ℕ} (e : x ≡ get_or m (i * PLACE + SLEEP) 0) where
  pub second_none : (x ≡ 3 → ⊥) → Passes m i m false
  second_none d = (
    record { is = λ l h. unturned l h slept (awake-same e l h d) },
    λ ps used next l h. rw (awake-same e l h d) (calm (sleeps (get_or ps i no_process))),
  )

  module _ {y : ℕ} (g : y ≡ get_or m (i * PLACE + SECONDS) 0) (z : x ≡ 3) where
    pub second-last : y ≡ 1 → Passes m i (waked m i 3 0) true
    unfolding numbers whole
    second-last o = (
      record { is = λ l h. turned l h slept ((SLEEP, 0) ∷ (WAKE, 3) ∷ (SECONDS, 0) ∷ (LEFT, 0) ∷ []) refl (rw (last-second e l h g z o)) (rw (last-second e l h g z o) (at-whole l h)) },
      λ ps used next l h. rw (last-second e l h g z o, kind e l h ∙ z),
    )

    stays-asleep : (y ≡ 1 → ⊥) → (ps : List Process) (used next : ℕ) → Procs m ps used next → i < length ps → false ≡ wakes_by slept (get_or ps i no_process)
    stays-asleep o ps used next l h = rw (less-second e l h g z o, kind e l h ∙ z)

    pub second-less : (y ≡ 1 → ⊥) → Passes m i (set m (i * PLACE + SECONDS) (y - 1)) false
    unfolding numbers whole
    second-less o = (
      record {
        is = λ {ps} l h.
            turned l h slept ((SECONDS, y - 1) ∷ []) refl (rw (less-second e l h g z o) (ap (λ (k : ℕ). numbers (asleep_for k (y - 1) (get_or ps i no_process))) (kind e l h ∙ z))) (rw (less-second e l h g z o) (at-whole l h));
      },
      stays-asleep o,
    )

    pub second-zero : y ≡ 0 → Passes m i m false
    unfolding numbers whole
    second-zero o = (
      record {
        is = λ {ps} l h.
            unturned l h slept
            (less-second e l h g z (λ (j : y ≡ 1). omega arith)
            ∙ ap (λ (k : ℕ). asleep_for k (y - 1) (get_or ps i no_process)) (sym (kind e l h ∙ z))
            ∙ ap (λ (k : ℕ). asleep_for (get_or ps i no_process).rest.sleep k (get_or ps i no_process)) (let f : (get_or ps i no_process).rest.seconds ≡ y = left e l h g z in let d : y - 1 ≡ y = omega arith in d ∙ sym f));
      },
      stays-asleep (λ (j : y ≡ 1). omega arith),
    )

-- ---- an alarm

module _ {m : List ℕ} {i y : ℕ} (g : y ≡ get_or m (i * PLACE + ALARM) 0) where
  module _ {ps : List Process} {used next : ℕ} (l : Procs m ps used next) (h : i < length ps) where
    pub owed : y ≡ (get_or ps i no_process).alarm
    unfolding numbers
    owed = g ∙ procs-get l i h 8 (omega arith)

  pub alarm-less : Turns (λ p. with_alarm (p.alarm - 1) p) m i (set m (i * PLACE + ALARM) (y - 1))
  unfolding numbers whole
  alarm-less = record { is = λ l h. turned l h (λ p. with_alarm (p.alarm - 1) p) ((ALARM, y - 1) ∷ []) refl (rw (owed l h)) (at-whole l h) }

  pub alarm-off : y ≡ 0 → Turns (λ p. with_alarm (p.alarm - 1) p) m i m
  alarm-off o =
      record { is = λ {ps} l h. unturned l h (λ p. with_alarm (p.alarm - 1) p) (ap (λ (k : ℕ). with_alarm k (get_or ps i no_process)) (let a = owed l h in omega arith)) }

pub second_is : (p : Process) → with_alarm ((slept p).alarm - 1) (slept p) ≡ second p
second_is p = rw (slept-alarm p)
