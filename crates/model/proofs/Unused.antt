-- A sound state is its machine laid out: zeros in the unused places. Assumes nothing.
use Prim.Native.Nat.{ℕ, ◌-◌, ◌≤◌}
use native.Mathlib.Omega.{arith}
use mathlib.Core.Path.{◌≡◌, refl, sym, ap, ◌∙◌}
use mathlib.Core.Bool.{Bool, true, and-eq-true_iff}
use mathlib.Core.List.{List, [], ◌∷◌, ◌++◌}
use lib.ListN.{length, take, drop, replicate, length-take, length-drop, take-append-drop}
use lib.Seq.{length-take-le}
use lib.Dec.{eqb}
use borrow.Author.Tests.{eqb-true, leb-true, not-true}
use Rattle.locks.specs.Lists.{all, is_zero, padded}
use Rattle.locks.specs.Rows.{no_row, zero_row, sound_row, rows_of, laid_rows}
use Rattle.locks.specs.Words.{fit_row}
use Rattle.locks.specs.declared.rows.Row.{Row}
use Rattle.locks.specs.declared.rows.Table.{Table}
use Rattle.locks.proofs.Tests.{and_split}
use Rattle.locks.proofs.Lists.{all-mono}
use Rattle.rules.specs.State.{no_ids, new_process, no_process, view, laid, pids}
use Rattle.rules.specs.Sound.{zero_process, sound_machine, sound}
use Rattle.rules.specs.declared.state.Ids.{Ids}
use Rattle.rules.specs.declared.state.Process.{Process}
use Rattle.rules.specs.declared.state.State.{State}

-- ---- the unused places

module _ {A : Type 0} (f : A → Bool) (z : A) (same : (x : A) → f x ≡ true → x ≡ z) where
  all_same : (xs : List A) → all f xs ≡ true → xs ≡ replicate (length xs) z
  all_same [] h = refl
  all_same (x ∷ xs) h = let s = and_split (f x) (all f xs) h in λ i. same x s.0 i ∷ all_same xs s.1 i

  -- n places, of which those behind the first k pass
  laid_out : (n k : ℕ) (xs : List A) → length xs ≡ n → k ≤ n → all f (drop k xs) ≡ true → xs ≡ padded n z (take k xs)
  unfolding padded
  laid_out n k xs e l h =
      let r : length (drop k xs) ≡ n - length (take k xs) = rw (length-drop, length-take) (omega arith) in
      sym (take-append-drop k xs) ∙ ap (λ (r : List A). take k xs ++ r) (all_same (drop k xs) h ∙ ap (λ (j : ℕ). replicate j z) r)

zero-list : (n : ℕ) (xs : List ℕ) → (eqb (length xs) n ≡ true) × (all is_zero xs ≡ true) → xs ≡ replicate n 0
zero-list n xs h = all_same is_zero 0 (λ x e. eqb-true x 0 e) xs h.1 ∙ ap (λ (j : ℕ). replicate j 0) (eqb-true (length xs) n h.0)

zero-ids : (i : Ids) → ((is_zero i.effective ≡ true) × (is_zero i.login ≡ true)) × (is_zero i.program ≡ true) → i ≡ no_ids
zero-ids i h = λ j. record { effective = eqb-true i.effective 0 h.0.0 j; login = eqb-true i.login 0 h.0.1 j; program = eqb-true i.program 0 h.1 j }

zero-process : (p : Process) → zero_process p ≡ true → p ≡ no_process
unfolding zero_process no_process new_process
zero-process p h =
    let k = simp and-eq-true_iff at h in
    λ j. record {
      pid = eqb-true p.pid 0 k.0.0.0.0.0.0 j;
      user = zero-ids p.user k.0.0.0.0.0.1 j;
      group = zero-ids p.group k.0.0.0.0.1 j;
      priority = eqb-true p.priority 0 k.0.0.0.1 j;
      signals =
          record {
            reactions = zero-list 7 p.signals.reactions k.0.0.1.0.0 j;
            pending = eqb-true p.signals.pending 0 k.0.0.1.0.1 j;
            traps = zero-list 7 p.signals.traps k.0.0.1.1 j;
          };
      alarm = eqb-true p.alarm 0 k.0.1 j;
      rest =
          record {
            sleep = eqb-true p.rest.sleep 0 k.1.0.0.0 j;
            seconds = eqb-true p.rest.seconds 0 k.1.0.0.1 j;
            wake = eqb-true p.rest.wake 0 k.1.0.1 j;
            left = eqb-true p.rest.left 0 k.1.1 j;
          };
    }

zero_row_lem : (r : Row) → zero_row r ≡ true → r ≡ no_row
unfolding zero_row no_row
zero_row_lem r h =
    let k = simp and-eq-true_iff at h in
    λ j. record {
      owner = eqb-true r.owner 0 k.0.0.0 j;
      shared = not-true r.shared k.0.0.1 j;
      len = eqb-true r.len 0 k.0.1 j;
      bytes = zero-list 16 r.bytes k.1 j;
    }

-- ---- the state

sound-table : (t : Table) → length t.rows ≡ 32 → t.used ≤ 32 → all zero_row (drop t.used t.rows) ≡ true → t ≡ laid_rows (rows_of t)
unfolding laid_rows rows_of
sound-table t e l h =
    λ i. record { rows = laid_out zero_row no_row zero_row_lem 32 t.used t.rows e l h i; used = sym (length-take-le t.used t.rows (omega arith)) i }

pub sound-laid : (s : State) → sound s ≡ true → length s.procs ≡ 16 → length s.table.rows ≡ 32 → s ≡ laid (view s)
unfolding sound view laid rows_of
sound-laid s h p r =
    let k = simp and-eq-true_iff at h in
    let a = leb-true s.live 16 k.0.0.0.0.1 in
    let b = leb-true s.table.used 32 k.0.0.0.1 in
    λ i. record {
      procs = laid_out zero_process no_process zero-process 16 s.live s.procs p a k.0.0.1 i;
      live = sym (length-take-le s.live s.procs (omega arith)) i;
      table = sound-table s.table r b k.0.1 i;
      next = s.next;
    }

-- what the code asks of it
pub sound-live : (s : State) → sound s ≡ true → s.live ≤ 16
unfolding sound
sound-live s h = leb-true s.live 16 (simp and-eq-true_iff at h).0.0.0.0.1

pub sound-used : (s : State) → sound s ≡ true → s.table.used ≤ 32
unfolding sound
sound-used s h = leb-true s.table.used 32 (simp and-eq-true_iff at h).0.0.0.1

row_fits : (live : List ℕ) (r : Row) → sound_row live r ≡ true → fit_row r ≡ true
unfolding sound_row fit_row
row_fits live r h = let k = simp and-eq-true_iff at h in simp and-eq-true_iff (k.0.0, k.1)

pub sound-rows : (s : State) → sound s ≡ true → all fit_row (rows_of s.table) ≡ true
unfolding sound sound_machine view
sound-rows s h =
    let k = (simp and-eq-true_iff at h).1.0.0.1 in
    all-mono (sound_row (pids (take s.live s.procs))) fit_row (row_fits (pids (take s.live s.procs))) (rows_of s.table) k
