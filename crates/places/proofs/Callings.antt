-- The caller, who is the process at place i of a sound machine and awake: its PID leads to its place, and a change of it alone wakes and ends nobody. Assumes nothing.
use Prim.Native.Nat.{ℕ, zero, suc, ◌+◌, ◌*◌, ◌<◌}
use native.Mathlib.Nat.{le_of_suc-le-suc, not-suc-le-zero}
use native.Mathlib.Omega.{arith}
use mathlib.Core.Path.{◌≡◌, refl, sym, ap, ◌∙◌}
use mathlib.Core.Bool.{true, false, true≢false, and-eq-true_iff}
use mathlib.Core.List.{List, [], ◌∷◌}
use lib.ListN.{length, get_or, set, length-map}
use lib.Dec.{leb}
use lib.Seq.{set-get_or}
use borrow.Author.Tests.{eq-eqb, ne_eqb}
use Rattle.locks.specs.Lists.{member}
use Rattle.locks.proofs.Tests.{and_split, or_left, or_right}
use Rattle.rules.specs.State.{Machine, no_process, has, pids, process_of, in_place, sleeps}
use Rattle.rules.specs.Sound.{ascend, sound_machine}
use Rattle.rules.specs.declared.state.Process.{Process}
use Rattle.rules.proofs.Frame.{Ok, fit-ascend, below-first}
use Rattle.places.specs.Places.{place_of}
use Rattle.places.proofs.Located.{place-first, place-put}
use Rattle.places.proofs.Masking.{Quiet, put-masks}
use Rattle.places.specs.Places.{Calls, Lays, PID, PLACE, caller, machine, numbers}
use Rattle.places.proofs.Laying.{procs-get, procs-live}

-- ---- a sound machine

pub machine-ok : {m t : List ℕ} {s : Machine} → Lays m t s → sound_machine s ≡ true → Ok s
unfolding sound_machine
machine-ok l h =
    let k = simp and-eq-true_iff at h in
    record {
      frame = record { fit = k.0.0.0; rows-sound = k.0.0.1; rows_apart = k.0.1; few = rw length-map l.procs.few; rows_few = l.used };
      procs = k.1;
    }

-- ---- where PIDs ascend, the PID of the process at a place leads to that place

pub member-at : (ps : List Process) (i : ℕ) → i < length ps → member (get_or ps i no_process).pid (pids ps) ≡ true
member-at [] i l = absurd (not-suc-le-zero l)
member-at (p ∷ ps) zero l = or_left (has p.pid p) (member p.pid (pids ps)) (eq-eqb p.pid p.pid refl)
member-at (p ∷ ps) (suc i) l = or_right (has (get_or ps i no_process).pid p) (member (get_or ps i no_process).pid (pids ps)) (member-at ps i (le_of_suc-le-suc l))

pub place_at : (low : ℕ) (ps : List Process) (next i : ℕ) → ascend low (pids ps) next ≡ true → i < length ps → place_of (get_or ps i no_process).pid (pids ps) ≡ i
unfolding ascend place_of
place_at low [] next i up l = absurd (not-suc-le-zero l)
place_at low (p ∷ ps) next zero up l = rw (eq-eqb p.pid p.pid refl)
place_at low (p ∷ ps) next (suc i) up l =
    let u = and_split (leb low p.pid) (ascend (p.pid + 1) (pids ps) next) up in
    let n = (get_or ps i no_process).pid in
    let h : member n (pids ps) ≡ true = member-at ps i (le_of_suc-le-suc l) in
    let d : p.pid ≡ n → ⊥ = λ (e : p.pid ≡ n). true≢false (sym (ap (λ (k : ℕ). member k (pids ps)) e ∙ h) ∙ below-first p.pid (p.pid + 1) (pids ps) next (omega arith) u.1) in
    rw (ne_eqb p.pid n d) (ap suc (place_at (p.pid + 1) ps next i u.1 (le_of_suc-le-suc l)))

-- ---- the process at place i of a sound machine

module _ {s : Machine} (o : Ok s) {i : ℕ} (l : i < length s.procs) where
  pub at_place : place_of (get_or s.procs i no_process).pid (pids s.procs) ≡ i
  at_place = place_at 1 s.procs s.next i (fit-ascend (pids s.procs) s.next o.frame.fit) l

  pub at-process : process_of s (get_or s.procs i no_process).pid ≡ get_or s.procs i no_process
  unfolding process_of
  at-process = sym (place-first (get_or s.procs i no_process).pid s.procs) ∙ ap (λ (j : ℕ). get_or s.procs j no_process) at_place

  -- another process of its PID comes into its place
  module _ (q : Process) (e : q.pid ≡ (get_or s.procs i no_process).pid) where
    pub at-put : in_place q s.procs ≡ set s.procs i q
    at-put = sym (place-put q s.procs) ∙ ap (λ (j : ℕ). set s.procs j q) (ap (λ (n : ℕ). place_of n (pids s.procs)) e ∙ at_place)

    -- it was awake: nobody wakes or ends
    pub at-quiet : sleeps (get_or s.procs i no_process) ≡ false → (after : Machine) → after.procs ≡ set s.procs i q → Quiet s after
    at-quiet a after f = put-masks s after o q (f ∙ sym at-put) (ap (λ (n : ℕ). sleeps (process_of s n)) e ∙ ap sleeps at-process ∙ a)

  -- put back as it is
  pub at_back : set s.procs i (get_or s.procs i no_process) ≡ s.procs
  at_back = set-get_or s.procs i no_process

-- ---- the caller

module _ {m t : List ℕ} {i : ℕ} (c : Calls m t i) where
  pub calls-here : i < length (machine m t).procs
  calls-here = let n = procs-live c.laid.lays.procs in omega (arith, c.stands)

  pub calls-fits : i < 16
  calls-fits = omega (arith, c.stands, c.laid.live)

  pub calls-ok : Ok (machine m t)
  calls-ok = machine-ok c.laid.lays c.sound

  pub calls-put : (q : Process) → q.pid ≡ (caller m t i).pid → in_place q (machine m t).procs ≡ set (machine m t).procs i q
  calls-put q e = at-put calls-ok calls-here q e

  pub calls-quiet : (q : Process) → q.pid ≡ (caller m t i).pid → (after : Machine) → after.procs ≡ set (machine m t).procs i q → Quiet (machine m t) after
  calls-quiet q e after f = at-quiet calls-ok calls-here q e c.awake after f

  -- field k of the caller, and the PID that the code has read
  pub caller-get : (k : ℕ) → k < PLACE → get_or m (i * PLACE + k) 0 ≡ get_or (numbers (caller m t i)) k 0
  caller-get k b = procs-get c.laid.lays.procs i calls-here k b

  pub caller-pid : {x : ℕ} → x ≡ get_or m (i * PLACE + PID) 0 → (caller m t i).pid ≡ x
  unfolding numbers
  caller-pid e = sym (e ∙ caller-get 0 (omega arith))
