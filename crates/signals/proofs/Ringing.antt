-- Alarms: whether one is at its last second, one that rings, and all of them one after another. Assumes nothing.
use Prim.Native.Nat.{ℕ, ◌+◌, ◌-◌, ◌*◌, ◌≤◌, ◌<◌}
use native.Mathlib.Omega.{arith}
use native.Mathlib.Numerals.{add-one}
use mathlib.Core.Path.{◌≡◌, refl, sym, ap, ◌∙◌}
use mathlib.Core.List.{List, [], ◌∷◌, ◌++◌, map, map-append}
use lib.ListN.{length, get_or, take, set, get_or-eq_default}
use lib.Dec.{eqb}
use lib.Seq.{take-suc, take_all, get_or-set_same, set-get_or}
use borrow.Author.Tests.{eq-eqb, eqb-false, eqb-true, ne_eqb}
use Rattle.locks.proofs.Tests.{cases}
use Rattle.rules.specs.State.{Machine, no_process, new_process, pids, process_of, put, with_alarm}
use Rattle.rules.specs.Signals.{arrives}
use Rattle.rules.specs.Clock.{slept, rings, alarms, ticked}
use Rattle.rules.specs.declared.state.Process.{Process}
use Rattle.rules.proofs.Frame.{pids-put}
use Rattle.places.specs.Places.{place_of}
use Rattle.places.proofs.Located.{put-length}
use Rattle.signals.specs.Noted.{Noted, no_past}
use Rattle.signals.specs.declared.masks.Past.{Past}
use Rattle.signals.specs.declared.masks.Before.{Before}
use Rattle.places.specs.Places.{ALARM, Housed, LIVE, Laid, Lays, NEXT, PLACE, Procs, Turns, USED, caller, machine, numbers, procs_in}
use Rattle.signals.proofs.Found.{found_at, found_first, found-process}
use Rattle.signals.proofs.Arriving.{caller-put, in-procs}
use Rattle.signals.proofs.Elapsing.{owed}
use Rattle.signals.proofs.Seconds.{due}
use Rattle.places.proofs.Laying.{laid, lays_back, procs-back, procs-get, procs-live}
use Rattle.signals.proofs.Noting.{noted_here}
use Rattle.signals.proofs.Passing.{each-lays}

-- ---- an alarm at its last second

pub due-at : {m : List ℕ} → Housed m → (i : ℕ) → i < length (procs_in m) → eqb (get_or m (i * PLACE + ALARM) 0) 1 ≡ due (get_or (procs_in m) i no_process)
unfolding numbers
due-at h i l = ap (λ (n : ℕ). eqb n 1) (procs-get h.procs i l ALARM (omega arith))

-- ---- what the rule says

module _ (p : Process) (s : Machine) where
  rings-off : p.alarm ≡ 0 → rings p s ≡ s
  unfolding rings
  rings-off e = rw (eq-eqb p.alarm 0 e)

  rings-last : p.alarm ≡ 1 → rings p s ≡ arrives 5 p.pid (put (with_alarm (p.alarm - 1) p) s)
  unfolding rings
  rings-last e =
      let z : 0 ≡ p.alarm - 1 = omega arith in
      rw (ne_eqb p.alarm 0 (λ (h : p.alarm ≡ 0). omega arith), eq-eqb p.alarm 1 e) (ap (λ (n : ℕ). arrives 5 p.pid (put (with_alarm n p) s)) z)

  rings-less : 1 ≤ p.alarm → (p.alarm ≡ 1 → ⊥) → rings p s ≡ put (with_alarm (p.alarm - 1) p) s
  unfolding rings
  rings-less b d = rw (ne_eqb p.alarm 0 (λ (h : p.alarm ≡ 0). omega arith), ne_eqb p.alarm 1 d)

alarms-end : (ns : List ℕ) (n : ℕ) (s : Machine) → alarms (ns ++ n ∷ []) s ≡ rings (process_of (alarms ns s) n) (alarms ns s)
unfolding alarms
alarms-end [] n s = refl
alarms-end (k ∷ ns) n s = alarms-end ns n (rings (process_of s k) s)

-- ---- the alarm of the process at place k, the first of its PID

module _ {m t : List ℕ} {k : ℕ} (l : Laid m t) (b : k < get_or m LIVE 0) (e : k ≡ place_of (caller m t k).pid (pids (machine m t).procs)) {u : List ℕ} (c : Turns (λ p. with_alarm (p.alarm - 1) p) m k u) where
  abbrev lessened : Process
  lessened = with_alarm ((caller m t k).alarm - 1) (caller m t k)

  set-lays : Procs u (set (machine m t).procs k lessened) (length (machine m t).rows) (machine m t).next
  set-lays = c.is l.lays.procs (in-procs l b)

  less-lays : Lays u t (put lessened (machine m t))
  less-lays = caller-put l b e (λ p. refl) c

  less-pid : (caller u t k).pid ≡ (caller m t k).pid
  unfolding machine
  less-pid = ap (λ (ps : List Process). (get_or ps k no_process).pid) (procs-back set-lays) ∙ ap (λ (p : Process). p.pid) (get_or-set_same (machine m t).procs k lessened no_process (in-procs l b))

  less-pids : pids (machine u t).procs ≡ pids (machine m t).procs
  unfolding put
  less-pids = ap (λ (s : Machine). pids s.procs) (lays_back less-lays) ∙ pids-put lessened (machine m t).procs

  -- what `arrive` asks
  pub less-laid : Laid u t
  less-laid = laid less-lays

  pub less-stands : k < get_or u LIVE 0
  unfolding put
  less-stands = let n = procs-live less-lays.procs in let o = put-length lessened (machine m t).procs in let h = in-procs l b in omega arith

  pub less-first : k ≡ place_of (caller u t k).pid (pids (machine u t).procs)
  less-first = e ∙ (λ j. place_of (sym less-pid j) (sym less-pids j))

  module _ {x : ℕ} (g : x ≡ get_or m (k * PLACE + ALARM) 0) where
    left : x ≡ (caller m t k).alarm
    left = owed g l.lays.procs (in-procs l b)

    pub ring-last : {v w : List ℕ} → x ≡ 1 → Lays v w (arrives 5 (caller u t k).pid (machine u t)) → Lays v w (rings (caller m t k) (machine m t))
    ring-last o a =
        let q : arrives 5 (caller u t k).pid (machine u t) ≡ rings (caller m t k) (machine m t) = (λ j. arrives 5 (less-pid j) (lays_back less-lays j)) ∙ sym (rings-last (caller m t k) (machine m t) (sym left ∙ o)) in
        rw q at a

    same-lays : (caller m t k).alarm ≡ 0 → Lays u t (machine m t)
    same-lays z =
        let q : lessened ≡ caller m t k = ap (λ (n : ℕ). with_alarm n (caller m t k)) (omega arith) in
        let y : set (machine m t).procs k lessened ≡ (machine m t).procs = ap (set (machine m t).procs k) q ∙ set-get_or (machine m t).procs k no_process in
        record { procs = rw y at set-lays; rows = l.lays.rows; used = l.lays.used }

    pub ring-other : (x ≡ 1 → ⊥) → Lays u t (rings (caller m t k) (machine m t))
    ring-other o =
        cases (eqb (caller m t k).alarm 0)
        (λ z. let y = eqb-true (caller m t k).alarm 0 z in rw (rings-off (caller m t k) (machine m t) y) (same-lays y))
        (λ z.
        let y : (caller m t k).alarm ≡ 0 → ⊥ = eqb-false (caller m t k).alarm 0 z in
        rw (rings-less (caller m t k) (machine m t) (omega arith) (λ f. o (left ∙ f))) less-lays)

-- ---- the alarms of those who were noted

-- of the first i of them, each in the machine that those before it left
pub record Ringing (s : Machine) (before : Before) (m t : List ℕ) (i : ℕ) : Type 0 where
  pub inside : i ≤ before.live
  pub house : Laid m t
  pub lays : (ps : List Process) → Noted ps before → Lays m t (alarms (pids (take i ps)) s)

pub ringing : {m t : List ℕ} (before : Before) → Laid m t → Ringing (machine m t) before m t 0
unfolding alarms
ringing before l = record { inside = omega arith; house = l; lays = λ ps n. l.lays }

module _ {s : Machine} {before : Before} {m t : List ℕ} {i : ℕ} (g : Ringing s before m t i) where
  module _ {past : Past} (l : i < before.live) (o : past ≡ get_or before.processes i no_past) {k : ℕ} (e : k ≡ place_of past.pid (pids (procs_in m))) where
    at : k ≡ place_of past.pid (pids (machine m t).procs)
    at = found_at past.pid g.house.lays e

    -- what comes of the next
    pub rang : {u v : List ℕ} → Lays u v (rings (caller m t k) (machine m t)) → Ringing s before u v (i + 1)
    rang {u} {v} a =
        record {
          inside = omega arith;
          house = laid a;
          lays = λ ps n.
              let y = g.lays ps n in
              let b : i < length ps = omega (arith, n.live) in
              let q : rings (caller m t k) (machine m t) ≡ rings (process_of (alarms (pids (take i ps)) s) (get_or ps i no_process).pid) (alarms (pids (take i ps)) s) =
              ap (λ (p : Process). rings p (machine m t)) (found-process (machine m t) past.pid at)
              ∙ ap (λ (j : ℕ). rings (process_of (machine m t) j) (machine m t)) (ap (λ (z : Past). z.pid) o ∙ n.pid i b)
              ∙ ap (λ (z : Machine). rings (process_of z (get_or ps i no_process).pid) z) (lays_back y) in
              rw (add-one i, take-suc ps i no_process b, map-append, alarms-end (pids (take i ps)) (get_or ps i no_process).pid s, ← q) a;
        }

    -- it has ended
    pub rang-gone : get_or m LIVE 0 ≡ k → Ringing s before m t (i + 1)
    unfolding no_process new_process
    rang-gone h =
        let b : length (machine m t).procs ≤ k = let o = procs-live g.house.lays.procs in omega arith in
        let z : caller m t k ≡ no_process = get_or-eq_default (machine m t).procs no_process b in
        rang (rw (z, rings-off no_process (machine m t) refl) g.house.lays)

    -- what `ring` asks
    pub rang-first : k < get_or m LIVE 0 → k ≡ place_of (caller m t k).pid (pids (machine m t).procs)
    rang-first h = found_first (machine m t) past.pid at (let o = procs-live g.house.lays.procs in omega arith)

  pub rang-all : before.live ≤ i → (ps : List Process) → Noted ps before → Lays m t (alarms (pids ps) s)
  rang-all h ps n = let b : length ps ≤ i = omega (arith, n.live) in rw (take_all i ps b) at (g.lays ps n)

-- ---- the second in which they ring

pub loud-lays : {m t u v w : List ℕ} {before : Before} → Laid m t → Procs u (map slept (procs_in m)) (get_or m USED 0) (get_or m NEXT 0) → Noted (procs_in m) before
    → ((ps : List Process) → Noted ps before → Lays v w (alarms (pids ps) (machine u t))) → Lays v w (ticked (machine m t))
unfolding ticked
loud-lays {m} {t} l p n h = rw (lays_back (each-lays l slept p)) at (h (machine m t).procs (noted_here l n))
