-- Who wakes and who ends, by what became of each process. Assumes nothing.
use Prim.Native.Nat.{ℕ, ◌+◌}
use native.Mathlib.Omega.{arith}
use mathlib.Core.Path.{◌≡◌, refl, sym, ap, ◌∙◌}
use mathlib.Core.Bool.{Bool, true, false, not, ◌&&◌, and-true, true≢false}
use mathlib.Core.List.{List, [], ◌∷◌, map, map-append}
use lib.Dec.{eqb, leb}
use borrow.Author.Tests.{eqb-true, eq-eqb, ne_eqb}
use Rattle.locks.specs.Lists.{mask, member}
use Rattle.locks.proofs.Tests.{cases, and_split, or_left, or_right}
use Rattle.locks.proofs.Lists.{any_append}
use Rattle.rules.specs.State.{Machine, no_process, has, pids, sleeps, lives, first_of, process_of, in_place}
use Rattle.rules.specs.Calls.{born}
use Rattle.rules.specs.Sound.{ascend}
use Rattle.rules.specs.Step.{woken_mask, ended_mask}
use Rattle.rules.specs.declared.state.Process.{Process}
use Rattle.rules.proofs.Frame.{Ok, fit-ascend, below-first, pids-put, first-pid, pids-map}
use Rattle.rules.proofs.Places.{first-map, first-other, first-end}
use Rattle.places.specs.Places.{wakes_by}

-- nobody does
abbrev pub Quiet : Machine → Machine → Type 0
Quiet m after = (woken_mask m after ≡ 0) × (ended_mask m after ≡ 0)

-- where PIDs ascend, each process is the one of its PID: tests that agree on those make one mask
pub mask-alike : (f g : Process → Bool) (low : ℕ) (ps : List Process) (next : ℕ) → ascend low (pids ps) next ≡ true → ((n : ℕ) → member n (pids ps) ≡ true → f (first_of n ps) ≡ g (first_of n ps)) → mask f ps ≡ mask g ps
unfolding ascend first_of
mask-alike f g low [] next up h = refl
mask-alike f g low (p ∷ ps) next up h =
    let u = and_split (leb low p.pid) (ascend (p.pid + 1) (pids ps) next) up in
    let once = below-first p.pid (p.pid + 1) (pids ps) next (omega arith) u.1 in
    let same = eq-eqb p.pid p.pid refl in
    let head : f p ≡ g p = rw same at (h p.pid (or_left (has p.pid p) (member p.pid (pids ps)) same)) in
    rw (head, mask-alike f g (p.pid + 1) ps next u.1 (λ n l. rw (ne_eqb p.pid n (λ (e : p.pid ≡ n). true≢false (sym l ∙ (rw e at once)))) at (h n (or_right (has n p) (member n (pids ps)) l))))

nobody : (ps : List Process) → mask (λ _. false) ps ≡ 0
nobody [] = refl
nobody (p ∷ ps) = rw (nobody ps)

pub mask-none : (f : Process → Bool) (low : ℕ) (ps : List Process) (next : ℕ) → ascend low (pids ps) next ≡ true → ((n : ℕ) → member n (pids ps) ≡ true → f (first_of n ps) ≡ false) → mask f ps ≡ 0
mask-none f low ps next up h = mask-alike f (λ _. false) low ps next up h ∙ nobody ps

calm : (a b c : Bool) → (a ≡ true → c ≡ true) → (a && b && not c) ≡ false
calm true true c h = rw (h refl)
calm true false c h = refl
calm false b c h = refl

pub quiet-masks : (m after : Machine) → Ok m → ((n : ℕ) → lives m n ≡ true → lives after n ≡ true)
    → ((n : ℕ) → lives m n ≡ true → sleeps (process_of m n) ≡ true → sleeps (process_of after n) ≡ true) → Quiet m after
unfolding woken_mask ended_mask lives process_of
quiet-masks m after o alive asleep = (
  mask-none _ 1 m.procs m.next up (λ n l. rw (first-pid n m.procs l) (calm (sleeps (first_of n m.procs)) _ (sleeps (first_of n after.procs)) (asleep n l))),
  mask-none _ 1 m.procs m.next up (λ n l. rw (first-pid n m.procs l, alive n l)),
)
  where
    up : ascend 1 (pids m.procs) m.next ≡ true
    up = fit-ascend (pids m.procs) m.next o.frame.fit

-- ---- the same processes; one of them in its place; one more

module _ (m after : Machine) (o : Ok m) where
  pub same-masks : after.procs ≡ m.procs → Quiet m after
  unfolding lives process_of
  same-masks e = quiet-masks m after o (λ n l. rw e l) (λ n l h. rw e h)

  pub put-masks : (q : Process) → after.procs ≡ in_place q m.procs → sleeps (process_of m q.pid) ≡ false → Quiet m after
  unfolding lives process_of
  put-masks q e a =
      quiet-masks m after o (λ n l. rw (e, pids-put q m.procs) l)
      (λ n l h.
      cases (eqb q.pid n) (λ f. absurd (true≢false (sym h ∙ (rw (eqb-true q.pid n f) at a))))
      (λ f. rw (e, first-other q n m.procs f) h))

pub born-masks : (c : Process) (m : Machine) → Ok m → Quiet m (born c m)
unfolding lives process_of born
born-masks c m o =
    quiet-masks m (born c m) o (λ n l. rw (map-append, any_append) (or_left (member n (pids m.procs)) _ l))
    (λ n l h. rw (first-end c n m.procs l) h)

-- ---- each changed in its place

pub map-masks : (f : Process → Process) → ((p : Process) → (f p).pid ≡ p.pid) → f no_process ≡ no_process → (m after : Machine) → Ok m → after.procs ≡ map f m.procs
    → (mask (wakes_by f) m.procs ≡ woken_mask m after) × (0 ≡ ended_mask m after)
unfolding woken_mask ended_mask lives process_of
map-masks f k z m after o e = (
  mask-alike _ _ 1 m.procs m.next up (λ n l. rw (live n l, here n l, and-true (sleeps (first_of n m.procs)))),
  sym (mask-none _ 1 m.procs m.next up (λ n l. rw (live n l))),
)
  where
    up : ascend 1 (pids m.procs) m.next ≡ true
    up = fit-ascend (pids m.procs) m.next o.frame.fit

    live : (n : ℕ) → member n (pids m.procs) ≡ true → member (first_of n m.procs).pid (pids after.procs) ≡ true
    live n l = ap (λ (j : ℕ). member j (pids after.procs)) (first-pid n m.procs l) ∙ rw (e, pids-map f k m.procs) l

    here : (n : ℕ) → member n (pids m.procs) ≡ true → first_of (first_of n m.procs).pid after.procs ≡ f (first_of n m.procs)
    here n l = ap (λ (j : ℕ). first_of j after.procs) (first-pid n m.procs l) ∙ rw e (first-map f k z n m.procs)
