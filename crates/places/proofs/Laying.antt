-- Arrays that are machines laid out: reading, storing, and back. Assumes nothing.
use Prim.Native.Nat.{ℕ, ◌+◌, ◌*◌, ◌≤◌, ◌<◌}
use native.Mathlib.Omega.{arith}
use mathlib.Core.Path.{◌≡◌, refl, sym, ap, ◌∙◌}
use mathlib.Core.Bool.{true, ◌&&◌}
use mathlib.Core.List.{List, [], ◌∷◌, ◌++◌, append_assoc}
use lib.Dec.{eqb}
use lib.ListN.{length, get_or, set, length-append, length-set}
use lib.Seq.{get_or-append-add, set_at}
use borrow.Author.Tests.{eqb-true}
use Rattle.locks.specs.Lists.{padded}
use Rattle.locks.specs.declared.rows.Row.{Row}
use Rattle.locks.proofs.Tests.{and_split}
use Rattle.locks.proofs.Padding.{padded-length, padded-take, padded-get, padded-set, all_set}
use Rattle.locks.proofs.Telling.{rows_back}
use Rattle.rules.specs.State.{Machine, no_process}
use Rattle.rules.specs.declared.state.Process.{Process}
use Rattle.locks.specs.Cells.{Rows}
use Rattle.locks.specs.Pieces.{changes, parted, stores, within}
use Rattle.places.specs.Places.{Housed, LIVE, Laid, Lays, NEXT, PLACE, PLACES, Procs, USED, laid_procs, machine, numbers, process_in, procs_in, seven, small_ids, whole, with_rows}
use Rattle.locks.proofs.Pieces.{joined-get, joined_length, joined-set, parted-joined}

-- ---- one process, one row

pub wide : (p : Process) → length (numbers p) ≡ PLACE
unfolding numbers
wide p = refl

pub seven-all : (xs : List ℕ) → length xs ≡ 7 → seven xs ≡ xs
seven-all (a ∷ b ∷ c ∷ d ∷ e ∷ f ∷ g ∷ []) h = refl
seven-all [] h = absurd (omega arith)
seven-all (a ∷ []) h = absurd (omega arith)
seven-all (a ∷ b ∷ []) h = absurd (omega arith)
seven-all (a ∷ b ∷ c ∷ []) h = absurd (omega arith)
seven-all (a ∷ b ∷ c ∷ d ∷ []) h = absurd (omega arith)
seven-all (a ∷ b ∷ c ∷ d ∷ e ∷ []) h = absurd (omega arith)
seven-all (a ∷ b ∷ c ∷ d ∷ e ∷ f ∷ []) h = absurd (omega arith)
seven-all (a ∷ b ∷ c ∷ d ∷ e ∷ f ∷ g ∷ x ∷ xs) h = absurd (omega arith)

-- what a process that is whole has
pub record Entire (p : Process) : Type 0 where
  pub reactions : length p.signals.reactions ≡ 7
  pub traps : length p.signals.traps ≡ 7
  pub user : small_ids p.user ≡ true
  pub group : small_ids p.group ≡ true

pub entire : (p : Process) → whole p ≡ true → Entire p
unfolding whole
entire p h =
    let a = eqb (length p.signals.reactions) 7 in
    let b = eqb (length p.signals.traps) 7 in
    let s = and_split (a && b) (small_ids p.user && small_ids p.group) h in
    let l = and_split a b s.0 in
    let i = and_split (small_ids p.user) (small_ids p.group) s.1 in
    record { reactions = eqb-true _ 7 l.0; traps = eqb-true _ 7 l.1; user = i.0; group = i.1 }

process-back : (p : Process) (z : List ℕ) → whole p ≡ true → process_in (numbers p ++ z) ≡ p
unfolding numbers process_in
process-back p z h =
    let a = seven-all p.signals.reactions (entire p h).reactions in
    let b = seven-all p.signals.traps (entire p h).traps in
    λ i. record {
      pid = p.pid;
      user = p.user;
      group = p.group;
      priority = p.priority;
      signals = record { reactions = a i; pending = p.signals.pending; traps = b i };
      alarm = p.alarm;
      rest = p.rest;
    }

-- ---- processes

module _ {m : List ℕ} {ps : List Process} {used next : ℕ} (l : Procs m ps used next) where
  abbrev counts : List ℕ
  counts = length ps ∷ used ∷ next ∷ []

  procs-long : length (laid_procs ps) ≡ LIVE
  unfolding laid_procs
  procs-long = joined_length numbers PLACE wide (padded PLACES no_process ps) ∙ rw (padded-length PLACES no_process ps l.few)

  count_at : (k : ℕ) → get_or m (LIVE + k) 0 ≡ get_or counts k 0
  count_at k = rw (l.is, ← procs-long) (get_or-append-add (laid_procs ps) counts k 0)

  pub procs-live : get_or m LIVE 0 ≡ length ps
  procs-live = count_at 0

  pub procs-used : get_or m USED 0 ≡ used
  procs-used = count_at 1

  pub procs-next : get_or m NEXT 0 ≡ next
  procs-next = count_at 2

  pub procs-back : procs_in m ≡ ps
  unfolding laid_procs procs_in
  procs-back =
      ap (λ (k : ℕ). parted process_in PLACE k m) procs-live ∙ ap (parted process_in PLACE (length ps)) l.is
      ∙ parted-joined numbers PLACE wide process_in whole process-back (length ps) (padded PLACES no_process ps) counts (rw (padded-length PLACES no_process ps l.few) l.few) (rw (padded-take PLACES no_process ps) l.whole)
      ∙ padded-take PLACES no_process ps

  module _ (i : ℕ) (h : i < length ps) where
    room : i < length (padded PLACES no_process ps)
    room = rw (padded-length PLACES no_process ps l.few) (let b = l.few in omega arith)

    here : get_or (padded PLACES no_process ps) i no_process ≡ get_or ps i no_process
    here = padded-get PLACES no_process no_process ps i h

    -- field k of the process at place i
    pub procs-get : (k : ℕ) → k < PLACE → get_or m (i * PLACE + k) 0 ≡ get_or (numbers (get_or ps i no_process)) k 0
    unfolding laid_procs
    procs-get k b = rw l.is (joined-get numbers PLACE wide (padded PLACES no_process ps) counts i no_process room k b ∙ ap (λ (p : Process). get_or (numbers p) k 0) here)

    -- stores to fields of it: another process in its place
    pub procs-set : (ss : List (ℕ × ℕ)) (q : Process) → within PLACE ss ≡ true → changes (numbers (get_or ps i no_process)) ss ≡ numbers q → whole q ≡ true
        → Procs (stores PLACE m i ss) (set ps i q) used next
    unfolding laid_procs
    procs-set ss q b e w =
        record {
          is =
              ap (λ (x : List ℕ). stores PLACE x i ss) l.is
              ∙ joined-set numbers PLACE wide (padded PLACES no_process ps) counts i no_process room ss q b (ap (λ (p : Process). changes (numbers p) ss) here ∙ e)
              ∙ rw (padded-set PLACES no_process q ps i h, length-set ps i q);
          few = rw (length-set ps i q) l.few;
          whole = all_set whole ps i q w l.whole;
        }

  -- another count of rows
  pub procs-count : (k : ℕ) → Procs (set m USED k) ps k next
  procs-count k =
      record {
        is =
            ap (λ (x : List ℕ). set x USED k) (l.is ∙ sym (append_assoc (laid_procs ps) (length ps ∷ []) (used ∷ next ∷ [])))
            ∙ set_at (laid_procs ps ++ length ps ∷ []) used (next ∷ []) k USED (length-append (laid_procs ps) (length ps ∷ []) ∙ rw procs-long)
            ∙ append_assoc (laid_procs ps) (length ps ∷ []) (k ∷ next ∷ []);
        few = l.few;
        whole = l.whole;
      }

  -- what a next step asks
  pub housed : Housed m
  housed = record { procs = rw (procs-back, procs-used, procs-next) l; live = rw procs-live l.few }

-- ---- the machine

module _ {m t : List ℕ} {s : Machine} (l : Lays m t s) where
  -- the machine that the arrays show
  pub lays_back : machine m t ≡ s
  unfolding machine
  lays_back = rw (procs-back l.procs, procs-used l.procs, procs-next l.procs, rows_back l.rows)

  -- what a next step asks
  pub laid : Laid m t
  laid = record { lays = rw lays_back l; live = rw (procs-live l.procs) l.procs.few; used = rw (procs-used l.procs) l.used }

  -- other rows
  pub lays-rows : {u : List ℕ} (rows : List Row) → Rows u rows → length rows ≤ 32 → Lays (set m USED (length rows)) u (with_rows rows s)
  lays-rows rows r b = record { procs = procs-count l.procs (length rows); rows = r; used = b }
