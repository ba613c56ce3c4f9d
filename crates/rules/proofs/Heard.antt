-- What a signal does to a sleeper for a lock. Assumes nothing.
use Prim.Native.Nat.{ℕ}
use mathlib.Core.Path.{◌≡◌, refl, sym, ap, subst, ◌∙◌}
use mathlib.Core.Bool.{Bool, true, false, not}
use mathlib.Core.Logic.{inl, inr}
use mathlib.Core.List.{List, [], ◌∷◌, ◌++◌}
use lib.Dec.{eqb}
use borrow.Author.Tests.{eqb-true, eq-eqb, eqb-false, not-true}
use Rattle.locks.specs.Lists.{any}
use Rattle.locks.specs.Rows.{owns, twin, has_twin, waits_of, without_owner, without_waiting}
use Rattle.locks.specs.declared.rows.Row.{Row}
use Rattle.locks.proofs.Tests.{cases, picked}
use Rattle.locks.proofs.Lists.{any_append, sift-append}
use Rattle.locks.proofs.Fewer.{Fewer, fewer-sift, fewer-none}
use Rattle.rules.specs.State.{Machine, abort, ignore, for_lock, by_signal, reaction_to, lives, process_of, put, granted, rows_left}
use Rattle.rules.specs.Signals.{gone, ends, roused, trapped, reacts, arrives}
use Rattle.rules.specs.Demands.{Step, Sleeper, Sends, Fate, signalled}
use Rattle.rules.specs.declared.state.Process.{Process}
use Rattle.rules.proofs.Frame.{Ok, live-pid}
use Rattle.rules.proofs.Arrivals.{trapped-awake, granted-awake}
use Rattle.rules.proofs.Queue
use Rattle.rules.proofs.Queue.{twin-owner, alone-behind}
use Rattle.rules.proofs.Fates
use Rattle.rules.proofs.Fates.{Cut, cut-owner, cut-waiting}
use Rattle.rules.proofs.Places.{none_kept, left-lives, left-process, put-lives, put_other, put-own, ends-dead, ends-lives, ends-process, trapped-pid, heard-pid}

-- ---- a trap

trapped-wake : (sig a : ℕ) (p : Process) → p.rest.sleep ≡ for_lock → (trapped sig a p).rest.wake ≡ by_signal
unfolding trapped roused
trapped-wake sig a p e = rw e

-- ---- the row is gone

none-fewer : (f : Row → Bool) {xs ys : List Row} → Fewer xs ys → any f ys ≡ false → any f xs ≡ false
none-fewer f {xs} t h = not-true (any f xs) (fewer-none f t (rw h))

module _ (t : Step) (m : Machine) (n : ℕ) (r : Row) (o : Ok m) (s : Sleeper m n r) where
  no_rows : has_twin r (without_owner n m.rows) ≡ false
  unfolding has_twin without_owner
  no_rows = none_kept (owns n) (twin r) (λ q t. eq-eqb q.owner n (sym (twin-owner r q t) ∙ Queue.owner m n r o s)) m.rows

  no-waiting : has_twin r (without_waiting n m.rows) ≡ false
  unfolding has_twin without_waiting
  no-waiting =
      let at = Queue.place m n r o s in
      rw (at.place, sift-append f [] at.before (r ∷ at.behind), any_append, at.own, none-fewer (twin r) (fewer-sift f [] at.before) (Queue.no-twin m n r o s))
      (none-fewer (twin r) (fewer-sift f (at.before ++ r ∷ []) at.behind) (alone-behind at.before r at.behind (Queue.set_apart m n r o s)))
    where
      f : List Row → Row → Bool
      f earlier q = not (waits_of n earlier q)

  -- ---- nothing changes

  pub fate-same : Fate t m m n r
  fate-same = Fates.still t m n r o s m refl s.lives s.asleep

  -- ---- it arrives at another

  pub fate-ends : (k : ℕ) → (n ≡ k → ⊥) → Fate t m (ends k m) n r
  unfolding ends gone rows_left
  fate-ends k d = Fates.rows-go t m n r o s (ends k m) k d (cut-owner k m.rows) (ends-lives m n k d s.lives) (ends-process m n k d)

  -- rows of k go from a machine with n's process as it was
  pub fate-left : (k : ℕ) (w : Machine) (rows : List Row) → (n ≡ k → ⊥) → Cut k rows m.rows → lives w n ≡ true → process_of w n ≡ process_of m n → Fate t m (rows_left rows w) n r
  unfolding rows_left
  fate-left k w rows d c l e = Fates.rows-go t m n r o s (rows_left rows w) k d c (left-lives w n rows ∙ l) (left-process w n rows ∙ ap (granted rows) e)

  fate-other : (sig k : ℕ) → (n ≡ k → ⊥) → Fate t m (arrives sig k m) n r
  unfolding arrives reacts
  fate-other sig k d =
      picked Fated (eqb a ignore) (λ _. fate-same)
      (λ _.
      picked Fated (eqb a abort) (λ _. fate-ends k d)
      (λ e.
      fate-left k (put q m) (without_waiting k m.rows) d (cut-waiting k m.rows) (put-lives m n q ∙ s.lives)
      (put_other m n q (λ (f : q.pid ≡ n). d (sym f ∙ trapped-pid sig a (process_of m k) ∙ heard-pid sig k m e)))))
    where
      a : ℕ
      a = reaction_to sig (process_of m k)

      q : Process
      q = trapped sig a (process_of m k)

      Fated : Machine → Type 0
      Fated w = Fate t m w n r

  -- ---- it arrives at the sleeper

  fate-own : (sig : ℕ) → Sends t sig n → Fate t m (arrives sig n m) n r
  unfolding arrives reacts ends gone rows_left
  fate-own sig sent =
      picked Fated (eqb a ignore) (λ _ _. fate-same)
      (λ h.
      picked Fated (eqb a abort) (λ _ e. signalled (record { signal = sig; sent = sent; arrived = e; heard = eqb-false a ignore h; gone = no_rows; ended = inl (ends-dead m n) }))
      (λ _ e.
      signalled (record {
        signal = sig;
        sent = sent;
        arrived = e;
        heard = eqb-false a ignore h;
        gone = no-waiting;
        ended =
            inr (
              left-lives (put q m) n left ∙ put-lives m n q ∙ s.lives,
              ap (λ (p : Process). p.rest.sleep) now ∙ trapped-awake sig a (process_of m n),
              ap (λ (p : Process). p.rest.wake) now ∙ trapped-wake sig a (process_of m n) s.asleep,
            );
      })))
      refl
    where
      a : ℕ
      a = reaction_to sig (process_of m n)

      q : Process
      q = trapped sig a (process_of m n)

      left : List Row
      left = without_waiting n m.rows

      now : process_of (rows_left left (put q m)) n ≡ q
      now =
          left-process (put q m) n left
          ∙ ap (granted left) (put-own m n q (trapped-pid sig a (process_of m n) ∙ live-pid m n s.lives) s.lives)
          ∙ granted-awake left q (trapped-awake sig a (process_of m n))

      Fated : Machine → Type 0
      Fated w = w ≡ arrives sig n m → Fate t m w n r

  pub fate-arrives : (sig k : ℕ) → Sends t sig k → Fate t m (arrives sig k m) n r
  fate-arrives sig k sent =
      cases (eqb k n) (λ e. subst (λ (j : ℕ). Fate t m (arrives sig j m) n r) (sym (eqb-true k n e)) (fate-own sig (subst (λ (j : ℕ). Sends t sig j) (eqb-true k n e) sent)))
      (λ e. fate-other sig k (λ (f : n ≡ k). eqb-false k n e (sym f)))
