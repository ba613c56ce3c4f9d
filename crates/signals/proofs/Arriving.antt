-- A signal arrives at the process at a place, the first of its PID. Assumes nothing.
use Prim.Native.Nat.{ℕ, ◌+◌, ◌-◌, ◌*◌, ◌≤◌, ◌<◌}
use native.Mathlib.Omega.{arith}
use mathlib.Core.Path.{◌≡◌, sym, ap, ◌∙◌}
use mathlib.Core.List.{List}
use lib.ListN.{length, get_or, set}
use borrow.Author.Tests.{eq-eqb, ne_eqb}
use Rattle.locks.specs.declared.rows.Row.{Row}
use Rattle.locks.specs.declared.rows.Part.TheVariants.{Waiting}
use Rattle.rules.specs.State.{abort, ignore, in_place, no_process, pids, process_of, put, reaction_to, rows_left}
use Rattle.rules.specs.Signals.{arrives, ends, reacts, trapped}
use Rattle.rules.specs.declared.state.Process.{Process}
use Rattle.rules.proofs.Places.{trapped-pid}
use Rattle.places.specs.Places.{place_of}
use Rattle.places.proofs.Located.{place-first, place-put}
use Rattle.locks.specs.Cells.{staying}
use Rattle.places.specs.Places.{LIVE, Laid, Lays, PID, PLACE, REACTIONS, Turns, caller, machine, numbers}
use Rattle.places.proofs.Laying.{laid, lays_back, procs-get, procs-live}
use Rattle.signals.proofs.Losing.{own_row, staying-waiting}
use Rattle.places.proofs.Sevens.{reaction-at}

module _ {m t : List ℕ} {i : ℕ} (l : Laid m t) (h : i < get_or m LIVE 0) where
  pub in-procs : i < length (machine m t).procs
  in-procs = rw (← procs-live l.lays.procs) h

  -- its PID is read where it stands
  pub caller-pid : {x : ℕ} → x ≡ get_or m (i * PLACE + PID) 0 → x ≡ (caller m t i).pid
  unfolding numbers
  caller-pid e = e ∙ procs-get l.lays.procs i in-procs PID (omega arith)

  module _ (e : i ≡ place_of (caller m t i).pid (pids (machine m t).procs)) where
    -- it is the process of its PID
    pub caller-first : process_of (machine m t) (caller m t i).pid ≡ caller m t i
    unfolding process_of
    caller-first = sym (ap (λ (j : ℕ). get_or (machine m t).procs j no_process) e ∙ place-first (caller m t i).pid (machine m t).procs)

    -- changed in its place, it is put there
    pub caller-put : {u : List ℕ} {f : Process → Process} → ((p : Process) → (f p).pid ≡ p.pid) → Turns f m i u → Lays u t (put (f (caller m t i)) (machine m t))
    unfolding put
    caller-put {u} {f} same c =
        let ps = (machine m t).procs in
        let q = f (caller m t i) in
        let o : set ps i q ≡ in_place q ps = ap (λ (j : ℕ). set ps j q) (e ∙ ap (λ (n : ℕ). place_of n (pids ps)) (sym (same (caller m t i)))) ∙ place-put q ps in
        record { procs = rw o at (c.is l.lays.procs in-procs); rows = l.lays.rows; used = l.lays.used }

    trap-lays : {x : List ℕ} (s a : ℕ) → Turns (trapped s a) m i x → Lays x t (put (trapped s a (caller m t i)) (machine m t))
    trap-lays s a c = caller-put (trapped-pid s a) c

    pub trap-laid : {x : List ℕ} (s a : ℕ) → Turns (trapped s a) m i x → Laid x t
    trap-laid s a c = laid (trap-lays s a c)

    module _ {s a : ℕ} (b : (1 ≤ s) × (s ≤ 7)) (g : a ≡ get_or m (i * PLACE + (REACTIONS + s - 1)) 0) where
      reaction : reaction_to s (process_of (machine m t) (caller m t i).pid) ≡ a
      reaction =
          let o : REACTIONS + s - 1 ≡ REACTIONS + (s - 1) = omega arith in
          ap (reaction_to s) caller-first ∙ sym (g ∙ ap (λ (k : ℕ). get_or m (i * PLACE + k) 0) o ∙ reaction-at (s - 1) (omega arith) l.lays.procs in-procs)

      arrived : arrives s (caller m t i).pid (machine m t) ≡ reacts s a (caller m t i).pid (machine m t)
      unfolding arrives
      arrived = ap (λ (x : ℕ). reacts s x (caller m t i).pid (machine m t)) reaction

      pub arrive-ignored : a ≡ ignore → Lays m t (arrives s (caller m t i).pid (machine m t))
      unfolding reacts
      arrive-ignored z = rw (arrived, eq-eqb a ignore z) l.lays

      module _ (d : a ≡ ignore → ⊥) {u v : List ℕ} where
        pub arrive-ends : {n : ℕ} → n ≡ get_or m (i * PLACE + PID) 0 → a ≡ abort → Lays u v (ends n (machine m t)) → Lays u v (arrives s (caller m t i).pid (machine m t))
        unfolding reacts
        arrive-ends {n} w z k = rw (arrived, ne_eqb a ignore d, eq-eqb a abort z) (rw (caller-pid w) at k)

        pub arrive-traps : {x : List ℕ} {n : ℕ} → (a ≡ abort → ⊥) → Turns (trapped s a) m i x → n ≡ get_or m (i * PLACE + PID) 0
            → ((r : Row) → r.owner ≡ n → Lays u v (rows_left (staying Waiting r (machine x t).rows) (machine x t))) → Lays u v (arrives s (caller m t i).pid (machine m t))
        unfolding reacts put
        arrive-traps z c w k =
            rw (arrived, ne_eqb a ignore d, ne_eqb a abort z, caller-first)
            (rw (staying-waiting (own_row (caller m t i).pid) (machine m t).rows) at (rw (lays_back (trap-lays s a c)) at (k (own_row (caller m t i).pid) (sym (caller-pid w)))))
