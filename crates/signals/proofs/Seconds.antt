-- One second where no alarm rings: each process by itself. Assumes nothing.
use Prim.Native.Nat.{ℕ, ◌+◌, ◌-◌, ◌≤◌}
use native.Mathlib.Omega.{arith}
use mathlib.Core.Path.{◌≡◌, refl, sym, ap, ◌∙◌}
use mathlib.Core.Bool.{Bool, true, false}
use mathlib.Core.List.{List, [], ◌∷◌, ◌++◌, map, append_assoc, map-append}
use lib.Dec.{eqb, leb}
use borrow.Author.Tests.{eqb-true, eq-eqb, ne_eqb, leb-true}
use Rattle.locks.specs.Lists.{any, member, is_zero}
use Rattle.locks.specs.declared.rows.Row.{Row}
use Rattle.locks.proofs.Tests.{cases, and_split, or_off}
use Rattle.locks.proofs.Lists.{any-end}
use Rattle.rules.specs.State.{Machine, has, pids, first_of, process_of, in_place, put, each, with_alarm}
use Rattle.rules.specs.Clock.{slept, rings, alarms, ticked}
use Rattle.rules.specs.Sound.{ascend}
use Rattle.rules.specs.declared.state.Process.{Process}
use Rattle.rules.proofs.Courses.{slept-alarm}
use Rattle.rules.proofs.Frame.{Ok, fit-ascend, pids-map}
use Rattle.rules.proofs.Arrivals.{slept-pid}

-- ---- an alarm at its last second

abbrev pub due : Process → Bool
due p = eqb p.alarm 1

-- ---- no alarm rings: each process by itself

-- one second of a process
abbrev pub second : Process → Process
second p = with_alarm (p.alarm - 1) (slept p)

unfoldable less : Process → Process
less p = with_alarm (p.alarm - 1) p

-- ---- a process behind others of other PIDs

first-behind : (ps : List Process) (p : Process) (qs : List Process) → member p.pid (pids ps) ≡ false → first_of p.pid (ps ++ p ∷ qs) ≡ p
unfolding first_of
first-behind [] p qs h = rw (eq-eqb p.pid p.pid refl)
first-behind (x ∷ ps) p qs h = let o = or_off (has p.pid x) (member p.pid (pids ps)) h in rw o.0 (first-behind ps p qs o.1)

put-behind : (ps : List Process) (p : Process) (qs : List Process) (q : Process) → q.pid ≡ p.pid → member p.pid (pids ps) ≡ false → in_place q (ps ++ p ∷ qs) ≡ ps ++ q ∷ qs
unfolding in_place
put-behind [] p qs q e h = rw (e, eq-eqb p.pid p.pid refl)
put-behind (x ∷ ps) p qs q e h =
    let o = or_off (has p.pid x) (member p.pid (pids ps)) h in
    let k : has q.pid x ≡ false = ap (λ (n : ℕ). has n x) e ∙ o.0 in
    rw k (ap (λ (l : List Process). x ∷ l) (put-behind ps p qs q e o.1))

module _ (rows : List Row) (next : ℕ) where
  abbrev of : List Process → Machine
  of ps = record { procs = ps; rows = rows; next = next }

  rings-less : (ps : List Process) (p : Process) (qs : List Process) → member p.pid (pids ps) ≡ false → due p ≡ false → rings p (of (ps ++ p ∷ qs)) ≡ of (ps ++ less p ∷ qs)
  unfolding rings put less
  rings-less ps p qs h d =
      cases (is_zero p.alarm)
      (λ e. rw e (ap (λ (n : ℕ). of (ps ++ with_alarm n p ∷ qs)) (let z = eqb-true p.alarm 0 e in omega arith)))
      (λ e. rw (e, d) (ap of (put-behind ps p qs (less p) refl h)))

  -- those of ps are done, and lie below
  alarms-less : (ps qs : List Process) (low top : ℕ) → ((n : ℕ) → low ≤ n → member n (pids ps) ≡ false) → ascend low (pids qs) top ≡ true → any due qs ≡ false
      → alarms (pids qs) (of (ps ++ qs)) ≡ of (ps ++ map less qs)
  unfolding alarms ascend process_of less
  alarms-less ps [] low top b up d = refl
  alarms-less ps (q ∷ qs) low top b up d =
      let u = and_split (leb low q.pid) (ascend (q.pid + 1) (pids qs) top) up in
      let o = or_off (due q) (any due qs) d in
      let l = leb-true low q.pid u.0 in
      let h = b q.pid l in
      let f : rings (first_of q.pid (ps ++ q ∷ qs)) (of (ps ++ q ∷ qs)) ≡ of ((ps ++ less q ∷ []) ++ qs) =
      rw (first-behind ps q qs h, append_assoc ps (less q ∷ []) qs) (rings-less ps q qs h o.0) in
      ap (alarms (pids qs)) f
      ∙ alarms-less (ps ++ less q ∷ []) qs (q.pid + 1) top (λ n k. rw (map-append, any-end (λ x. eqb x n) (pids ps) (less q).pid, b n (omega arith)) (ne_eqb q.pid n (λ (e : q.pid ≡ n). omega arith))) u.1 o.1
      ∙ ap of (append_assoc ps (less q ∷ []) (map less qs))

less-slept : (ps : List Process) → map less (map slept ps) ≡ map second ps
unfolding less
less-slept [] = refl
less-slept (p ∷ ps) = rw (slept-alarm p, less-slept ps)

due-slept : (ps : List Process) → any due (map slept ps) ≡ any due ps
due-slept [] = refl
due-slept (p ∷ ps) = rw (slept-alarm p, due-slept ps)

pub ticked-quiet : (m : Machine) → Ok m → any due m.procs ≡ false → ticked m ≡ each second m
unfolding ticked each
ticked-quiet m o d =
    let e = pids-map slept slept-pid m.procs in
    ap (λ (ns : List ℕ). alarms ns (each slept m)) (sym e)
    ∙ alarms-less m.rows m.next [] (map slept m.procs) 1 m.next (λ _ _. refl) (rw e (fit-ascend (pids m.procs) m.next o.frame.fit)) (rw due-slept d)
    ∙ ap (of m.rows m.next) (less-slept m.procs)
