-- The process of a PID by its place in a machine: whether it lives, which it is. Assumes nothing.
use Prim.Native.Nat.{ℕ, ◌≤◌, ◌<◌}
use native.Mathlib.Omega.{arith}
use mathlib.Core.Path.{◌≡◌, sym, ap, ◌∙◌}
use mathlib.Core.Bool.{true, false, not}
use lib.ListN.{length, get_or, length-map}
use lib.Dec.{eqb, ltb}
use borrow.Author.Tests.{eq-eqb, ne_eqb, lt-ltb, le-ltb, ltb-true, ltb-false}
use Rattle.locks.proofs.Tests.{cases}
use Rattle.rules.specs.State.{Machine, no_process, pids, lives, process_of}
use Rattle.rules.specs.declared.state.Process.{Process}
use Rattle.rules.proofs.Frame.{live-pid}
use mathlib.Core.List.{List}
use Rattle.places.specs.Places.{Lays, place_of, procs_in}
use Rattle.places.proofs.Laying.{procs-back}
use Rattle.places.proofs.Located.{place-member, place-first}

-- the place found in the array is its place in the machine
pub found_at : {s : Machine} {m t : List ℕ} (n : ℕ) → Lays m t s → {k : ℕ} → k ≡ place_of n (pids (procs_in m)) → k ≡ place_of n (pids s.procs)
found_at n l e = e ∙ ap (λ (ps : List Process). place_of n (pids ps)) (procs-back l.procs)

module _ (s : Machine) (n : ℕ) {k : ℕ} (e : k ≡ place_of n (pids s.procs)) where
  pub found-lives : ltb k (length s.procs) ≡ lives s n
  unfolding lives
  found-lives = ap (λ (j : ℕ). ltb j (length s.procs)) e ∙ ap (ltb (place_of n (pids s.procs))) (sym (length-map s.procs (λ p. p.pid))) ∙ place-member n (pids s.procs)

  pub found-process : get_or s.procs k no_process ≡ process_of s n
  unfolding process_of
  found-process = ap (λ (j : ℕ). get_or s.procs j no_process) e ∙ place-first n s.procs

  -- there is none of that PID
  pub found_none : k ≡ length s.procs → lives s n ≡ false
  found_none h = sym found-lives ∙ le-ltb k (length s.procs) (omega arith)

  pub found-ended : k ≤ length s.procs → eqb k (length s.procs) ≡ not (lives s n)
  found-ended b =
      cases (ltb k (length s.procs))
      (λ h. ne_eqb k (length s.procs) (λ (f : k ≡ length s.procs). omega (arith, ltb-true k (length s.procs) h)) ∙ ap not (sym h ∙ found-lives))
      (λ h. eq-eqb k (length s.procs) (omega (arith, ltb-false k (length s.procs) h)) ∙ ap not (sym h ∙ found-lives))

  -- there is one
  module _ (h : k < length s.procs) where
    pub found-live : lives s n ≡ true
    found-live = sym found-lives ∙ lt-ltb k (length s.procs) h

    pub found-pid : (get_or s.procs k no_process).pid ≡ n
    found-pid = ap (λ (p : Process). p.pid) found-process ∙ live-pid s n found-live

    -- it is the first of its own PID
    pub found_first : k ≡ place_of (get_or s.procs k no_process).pid (pids s.procs)
    found_first = e ∙ ap (λ (j : ℕ). place_of j (pids s.procs)) (sym found-pid)
