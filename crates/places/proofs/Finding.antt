-- A loop that looks for a process by its PID. Assumes nothing.
use Prim.Native.Nat.{ℕ, ◌+◌, ◌*◌, ◌≤◌, ◌<◌}
use native.Mathlib.Omega.{arith}
use mathlib.Core.Path.{◌≡◌, refl, sym, ap, ◌∙◌}
use mathlib.Core.Bool.{false}
use mathlib.Core.List.{List}
use lib.Dec.{eqb}
use lib.ListN.{length, get_or, take, length-map, get_or-map}
use lib.Seq.{take_all}
use borrow.Author.Tests.{ne_eqb}
use Rattle.locks.specs.Lists.{member}
use Rattle.locks.proofs.Loops.{Walk, none-next}
use Rattle.rules.specs.State.{no_process, new_process, pids}
use Rattle.rules.specs.declared.state.Process.{Process}
use Rattle.places.specs.Places.{place_of}
use Rattle.places.proofs.Located.{place_found, place_none}
use Rattle.places.specs.Places.{Housed, LIVE, PID, PLACE, numbers, process_in, procs_in}
use Rattle.places.proofs.Laying.{procs-get}
use Rattle.locks.proofs.Pieces.{parted-length}

pub procs-length : (m : List ℕ) → length (procs_in m) ≡ get_or m LIVE 0
unfolding procs_in
procs-length m = parted-length process_in PLACE (get_or m LIVE 0) m

pub pids-length : (m : List ℕ) → length (pids (procs_in m)) ≡ get_or m LIVE 0
pids-length m = length-map (procs_in m) (λ p. p.pid) ∙ procs-length m

-- a PID is read where it stands
pub pid-at : {m : List ℕ} → Housed m → (i : ℕ) → i < get_or m LIVE 0 → get_or (pids (procs_in m)) i 0 ≡ get_or m (i * PLACE + PID) 0
unfolding numbers no_process new_process
pid-at {m} h i l =
    get_or-map (λ (p : Process). p.pid) (procs_in m) i no_process
    ∙ sym (procs-get h.procs i (rw (procs-length m) l) PID (omega arith))

-- it is none of the first i
pub record Seeks (m : List ℕ) (pid i : ℕ) : Type 0 where
  pub inside : i ≤ get_or m LIVE 0
  pub none : member pid (take i (pids (procs_in m))) ≡ false

pub seek-start : (m : List ℕ) (pid : ℕ) → Seeks m pid 0
seek-start m pid = record { inside = omega arith; none = refl }

module _ {m : List ℕ} {pid i : ℕ} (s : Seeks m pid i) where
  abbrev ns : List ℕ
  ns = pids (procs_in m)

  walk : Walk ns (length ns) (length ns) (length ns) i
  walk = record { inside = rw (pids-length m) s.inside; fits = omega arith; long = refl; whole = refl }

  module _ {x : ℕ} (h : Housed m) (l : i < get_or m LIVE 0) (e : x ≡ get_or m (i * PLACE + PID) 0) where
    in-pids : i < length ns
    in-pids = rw (pids-length m) l

    pub seek_found : x ≡ pid → i ≡ place_of pid ns
    seek_found o =
        place_found pid ns (length ns) i 0 in-pids (omega arith) s.none (pid-at h i l ∙ sym e ∙ o)
        ∙ ap (place_of pid) (take_all (length ns) ns (omega arith))

    pub seek-next : (x ≡ pid → ⊥) → Seeks m pid (i + 1)
    seek-next o =
        record {
          inside = omega arith;
          none = none-next walk (λ x. eqb x pid) 0 in-pids s.none (ne_eqb _ _ (λ j. o (e ∙ sym (pid-at h i l) ∙ j)));
        }

  pub seek-none : get_or m LIVE 0 ≤ i → i ≡ place_of pid ns
  seek-none l =
      let o : i ≡ get_or m LIVE 0 = omega (arith, s.inside) in
      let k : length ns ≤ i = rw (pids-length m) l in
      sym (place_none pid ns (ap (member pid) (sym (take_all i ns k)) ∙ s.none) ∙ pids-length m ∙ sym o)
