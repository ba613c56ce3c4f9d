-- The masks by comparison of the processes that were noted with a machine laid out. Assumes nothing.
use Prim.Native.Nat.{ℕ, ◌+◌, ◌*◌, ◌^◌, ◌≤◌, ◌<◌}
use native.Mathlib.Nat.{pow-succ'}
use native.Mathlib.Omega.{arith}
use native.Mathlib.Numerals.{add-one}
use mathlib.Core.Path.{◌≡◌, refl, ap, ◌∙◌}
use mathlib.Core.Bool.{Bool, true, false, cond, not, ◌&&◌, and-false}
use mathlib.Core.List.{List}
use lib.ListN.{length, get_or, take}
use lib.Dec.{eqb}
use lib.Pow.{pow_mono}
use borrow.Author.Tests.{ne_eqb, lt-ltb, le-ltb}
use lib.Seq.{get_or-take, length-take-le, take_all}
use Rattle.locks.specs.Lists.{mask}
use Rattle.rules.specs.State.{Machine, no_process, pids, sleeps, lives, process_of}
use Rattle.rules.specs.Step.{woken_mask, ended_mask}
use Rattle.rules.specs.declared.state.Process.{Process}
use Rattle.places.specs.Places.{place_of, Housed, LIVE, Lays, PLACE, SLEEP, numbers, procs_in}
use Rattle.locking.proofs.Marking.{Marked, marked, mark}
use Rattle.signals.specs.Noted.{Noted, no_past, up_at}
use Rattle.signals.specs.declared.masks.Past.{Past}
use Rattle.signals.specs.declared.masks.Before.{Before}
use Rattle.rules.specs.Reply.{four_of}
use Rattle.places.specs.Settled.{masked}
use Rattle.signals.proofs.Found.{found-ended, found-lives, found-process}
use Rattle.places.proofs.Laying.{procs-back, procs-get, procs-live}

-- a process that was asleep is awake, one that was there is gone
abbrev woke : Machine → Process → Bool
woke u p = sleeps p && lives u p.pid && not (sleeps (process_of u p.pid))

abbrev gone : Machine → Process → Bool
gone u p = not (lives u p.pid)

-- the masks of the first i, and the bit of the next
pub record Comparing (m : List ℕ) (b : Before) (w e bit i : ℕ) : Type 0 where
  pub inside : i ≤ b.live
  pub bits : bit ≡ 2 ^ i
  pub bound : bit ≤ 65536
  pub woken-few : w < bit
  pub ended-few : e < bit
  pub marks : (s u : Machine) (t : List ℕ) → Noted s.procs b → Lays m t u → Marked (woke u) s.procs w bit i × Marked (gone u) s.procs e bit i

pub comparing : (m : List ℕ) (b : Before) → Comparing m b 0 0 1 0
comparing m b =
    record {
      inside = omega arith;
      bits = refl;
      bound = omega arith;
      woken-few = omega arith;
      ended-few = omega arith;
      marks = λ s u t n l. (marked (woke u) s.procs, marked (gone u) s.procs);
    }

more-few : {w v bit : ℕ} (b : Bool) → w < bit → v ≡ w + cond b bit 0 → v < bit * 2
more-few true h e = omega arith
more-few false h e = omega arith

module _ {m : List ℕ} {before : Before} {w e bit i : ℕ} (c : Comparing m before w e bit i) where
  module _ {past : Past} (l : i < before.live) (q : past ≡ get_or before.processes i no_past) {k : ℕ} (fits : k ≤ get_or m LIVE 0) (place : k ≡ place_of past.pid (pids (procs_in m))) where
    module _ (s u : Machine) (t : List ℕ) (n : Noted s.procs before) (y : Lays m t u) where
      in_list : i < length s.procs
      in_list = omega (arith, n.live)

      noted-pid : past.pid ≡ (get_or s.procs i no_process).pid
      noted-pid = ap (λ (z : Past). z.pid) q ∙ n.pid i in_list

      noted-sleep : past.sleep ≡ (get_or s.procs i no_process).rest.sleep
      noted-sleep = ap (λ (z : Past). z.sleep) q ∙ n.sleep i in_list

      at : k ≡ place_of (get_or s.procs i no_process).pid (pids u.procs)
      at = place ∙ ap (λ (j : ℕ). place_of j (pids (procs_in m))) noted-pid ∙ ap (λ (ps : List Process). place_of (get_or s.procs i no_process).pid (pids ps)) (procs-back y.procs)

      compare-gone : {b : Bool} → b ≡ eqb k (get_or m LIVE 0) → b ≡ gone u (get_or s.procs i no_process)
      compare-gone f =
          f ∙ ap (eqb k) (procs-live y.procs) ∙ found-ended u (get_or s.procs i no_process).pid at (rw (procs-live y.procs) at fits)

      compare-woke : {a : Bool} → a ≡ up_at (procs_in m) k past.sleep → a ≡ woke u (get_or s.procs i no_process)
      compare-woke f =
          let p = get_or s.procs i no_process in
          f ∙ ap (λ (ps : List Process). up_at ps k past.sleep) (procs-back y.procs) ∙ ap (λ (x : ℕ). up_at u.procs k x) noted-sleep
          ∙ ap (λ (x : Bool). sleeps p && x && not (sleeps (get_or u.procs k no_process))) (found-lives u p.pid at)
          ∙ ap (λ (q : Process). sleeps p && lives u p.pid && not (sleeps q)) (found-process u p.pid at)

    pub compare : {v d : ℕ} {a b : Bool} → v ≡ w + cond a bit 0 → d ≡ e + cond b bit 0 → a ≡ up_at (procs_in m) k past.sleep → b ≡ eqb k (get_or m LIVE 0) → Comparing m before v d (bit * 2) (i + 1)
    compare {v} {d} {a} {b} f g ha hb =
        let o : bit * 2 ≡ 2 ^ (i + 1) = rw (c.bits, add-one i, pow-succ' 2 i) (omega arith) in
        let q : i + 1 ≤ 16 = omega (arith, before.fits) in
        record {
          inside = omega arith;
          bits = o;
          bound = rw o (pow_mono q);
          woken-few = more-few a c.woken-few f;
          ended-few = more-few b c.ended-few g;
          marks = λ s u t n y.
              let z = c.marks s u t n y in
              (mark z.0 no_process (in_list s u t n y) f (compare-woke s u t n y ha), mark z.1 no_process (in_list s u t n y) g (compare-gone s u t n y hb));
        }

  pub compared : before.live ≤ i → {out : List ℕ} (kind : ℕ) → out ≡ four_of (masked kind w e)
      → (s u : Machine) (t : List ℕ) → Noted s.procs before → Lays m t u → out ≡ four_of (masked kind (woken_mask s u) (ended_mask s u))
  unfolding woken_mask ended_mask
  compared a kind o s u t n y =
      let z = c.marks s u t n y in
      let b : length s.procs ≤ i = omega (arith, n.live) in
      let f : w ≡ woken_mask s u = z.0.is ∙ ap (mask (woke u)) (take_all i s.procs b) in
      let g : e ≡ ended_mask s u = z.1.is ∙ ap (mask (gone u)) (take_all i s.procs b) in
      o ∙ (λ j. four_of (masked kind (f j) (g j)))

-- ---- what the code reads of those before

module _ (before : Before) {xs : List Past} (e : xs ≡ take before.live before.processes) where
  pub before-live : length before.processes ≡ 16 → length xs ≡ before.live
  before-live h = ap length e ∙ length-take-le before.live before.processes (let f = before.fits in omega arith)

  pub before-get : {i : ℕ} → i < before.live → get_or xs i no_past ≡ get_or before.processes i no_past
  before-get {i} l = ap (λ (ys : List Past). get_or ys i no_past) e ∙ get_or-take before.live before.processes i no_past l

-- ---- whether the process at place k is up

not-not : (b : Bool) → b ≡ not (not b)
not-not true = refl
not-not false = refl

module _ {m : List ℕ} (h : Housed m) (k sleep : ℕ) where
  pub up-absent : k ≡ get_or m LIVE 0 → false ≡ up_at (procs_in m) k sleep
  up-absent e = rw (le-ltb k (length (procs_in m)) (let n = procs-live h.procs in omega arith), and-false (not (eqb sleep 0)))

  pub up-here : k < get_or m LIVE 0 → {x : ℕ} → x ≡ get_or m (k * PLACE + SLEEP) 0 → (sleep ≡ 0 → ⊥) → eqb x 0 ≡ up_at (procs_in m) k sleep
  unfolding numbers
  up-here b {x} e d =
      let l : k < length (procs_in m) = let n = procs-live h.procs in omega arith in
      let z : x ≡ (get_or (procs_in m) k no_process).rest.sleep = e ∙ procs-get h.procs k l SLEEP (omega arith) in
      rw (ne_eqb sleep 0 d, lt-ltb k (length (procs_in m)) l) (ap (λ (y : ℕ). eqb y 0) z ∙ not-not (eqb (get_or (procs_in m) k no_process).rest.sleep 0))
