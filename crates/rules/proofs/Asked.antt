-- Rows stand in the order in which they were asked for. Assumes nothing.
use Prim.Native.Nat.{zero-le, suc-le-suc}
use mathlib.Core.Path.{◌≡◌, refl, sym, ap, ◌∙◌}
use mathlib.Core.List.{[], ◌∷◌, ◌++◌, append-nil}
use lib.Dec.{eqb}
use borrow.Author.Tests.{eqb-true}
use Rattle.locks.specs.Rows.{has_twin, without_twin}
use Rattle.locks.specs.declared.rows.Row.{Row}
use Rattle.locks.proofs.Lists.{keep_all}
use Rattle.locks.proofs.Fewer.{Fewer, fewer-refl, fewer-keep}
use Rattle.rules.specs.State.{Machine, process_of, put, each, rows_left}
use Rattle.rules.specs.Outcome.{Outcome, refused, answered, when, either, own}
use Rattle.rules.specs.Signals.{taken}
use Rattle.rules.specs.Calls.{outlived, send_kill, do_fshell, born, do_exit, appended, queued, lock_row, do_lock, unlock_row, do_unlock, own_call, do_call, of_class, called}
use Rattle.rules.specs.Step.{reported, of_caller, outcome}
use Rattle.rules.specs.Demands.{Step, whole, second, counts, delivers, after, InOrder}
use Rattle.rules.specs.declared.state.Process.{Process}
use Rattle.rules.specs.declared.state.Event.{Event}
use Rattle.rules.specs.declared.calls.Call.{Call}
use Rattle.rules.specs.declared.calls.Call.TheVariants.{Own, Lock, Unlock, Kill, Exit, FShell, Indirect}
use Rattle.rules.specs.declared.calls.Class.{Class}
use Rattle.rules.specs.declared.calls.Class.TheVariants.{Modelled, NotModelled, BadCall}
use Rattle.rules.proofs.Walk.{Leaves}
use Rattle.rules.proofs.Frame.{Ok}
use Rattle.rules.proofs.Rings.{less-put, less-ends, less-arrives}
use Rattle.rules.proofs.Courses.{left-good}
use Rattle.rules.proofs.Leaving.{front-stands, fewer-stand}
use Rattle.rules.proofs.Steps.{NoTick}

-- some rows went, or one came
data Moved (m w : Machine) : Type 0 where
  went : Fewer w.rows m.rows → Moved m w
  came : (q : Row) → w.rows ≡ m.rows ++ q ∷ [] → Moved m w

moved_order : (m w : Machine) → Ok m → Moved m w → InOrder m w
moved_order m w o (went t) = record { new = []; rows = rw append-nil (fewer-stand t o.frame.rows_apart); single = zero-le }
moved_order m w o (came q e) =
    record {
      new = q ∷ [];
      rows = e ∙ ap (λ l. l ++ q ∷ []) (sym (keep_all (λ x. has_twin x w.rows) m.rows (rw e (front-stands m.rows (q ∷ [])))));
      single = suc-le-suc zero-le;
    }

module _ (m : Machine) where
  moved-own : (x : Outcome Process) → Leaves (Moved m) (own m x)
  moved-own (refused r) = tt
  moved-own (answered k d3 a0 p) = went (less-put p m)
  moved-own (when b r x) = λ _. moved-own x
  moved-own (either b x y) = (λ _. moved-own x, λ _. moved-own y)

  moved_call : (c : Call) (p : Process) (e : Event) → Leaves (Moved m) (do_call c p e m)
  unfolding do_call send_kill outlived do_fshell born do_exit do_unlock unlock_row rows_left without_twin do_lock lock_row queued appended put
  moved_call (Own c) p e = moved-own (own_call c p e)
  moved_call Lock p e = λ _ _ _ _ _. (λ _. came _ refl, λ _. came _ refl)
  moved_call Unlock p e = λ _ _. went (fewer-keep _ m.rows)
  moved_call Kill p e = λ _ _ _. let z = went (less-arrives e.d2 e.d3 m) in (λ _. z, λ _. z)
  moved_call Exit p e = λ _. went (less-ends p.pid m)
  moved_call FShell p e = λ _ _. went (fewer-refl m.rows)
  moved_call Indirect p e = tt

  moved-class : (c : Class) (p : Process) (e : Event) → Leaves (Moved m) (of_class c p e m)
  unfolding of_class
  moved-class (Modelled c) p e = moved_call c p e
  moved-class NotModelled p e = tt
  moved-class BadCall p e = tt

  moved-whole : (e : Event) → (e.kind ≡ 2 → ⊥) → Leaves (Moved m) (outcome e m)
  unfolding outcome of_caller called
  moved-whole e k =
      let p = process_of m e.caller in
      λ _. (
        λ t. absurd (k (eqb-true e.kind 2 t)),
        λ _ _ _. (λ _ _. moved-class _ p e, λ _. moved-own (either (eqb e.kind 3) (taken p) (reported p))),
      )

  moved : (t : Step) → NoTick t → Moved m (after t m)
  unfolding after each
  moved (whole e) k = left-good (Moved m) m (outcome e m) (went (fewer-refl m.rows)) (moved-whole e k)
  moved second k = went (fewer-refl m.rows)
  moved (counts n) k = went (less-put _ m)
  moved (delivers n) k = went (less-arrives 5 n m)

pub in_order : (t : Step) → NoTick t → (m : Machine) → Ok m → InOrder m (after t m)
in_order t k m o = moved_order m (after t m) o (moved m t k)
