-- A loop that changes each process in its place and marks who wakes. Assumes nothing.
use Prim.Native.Nat.{ℕ, ◌+◌, ◌*◌, ◌≤◌, ◌<◌}
use native.Mathlib.Omega.{arith}
use mathlib.Core.Path.{◌≡◌, refl, sym, ap, ◌∙◌}
use mathlib.Core.Bool.{Bool, true, false, cond, not, ◌&&◌}
use mathlib.Core.List.{List, ◌∷◌, [], ◌++◌, map, append-nil}
use lib.ListN.{length, get_or, take, drop, length-map, length-append, length-drop, drop_of_length-le}
use lib.Seq.{drop-cons, get_or_at, length-take-le, take_all}
use Rattle.locks.specs.Lists.{mask}
use Rattle.locks.specs.declared.rows.Row.{Row}
use Rattle.locks.proofs.Lists.{all-at}
use Rattle.rules.specs.State.{no_process, sleeps, woken_by, granted}
use Rattle.locking.proofs.Waking.{still-asleep, wakes, was-asleep}
use Rattle.locking.specs.Granted.{is_granted}
use Rattle.rules.specs.declared.state.Process.{Process}
use Rattle.places.specs.Places.{wakes_by}
use Rattle.places.proofs.Located.{map_more, map_same}
use Rattle.locking.proofs.Marking.{Marked, marked, mark, mark-bit, mark-small}
use Rattle.locks.specs.Cells.{Shows}
use Rattle.locks.specs.Pieces.{changes, stores, within}
use Rattle.places.specs.Places.{LEFT, LIVE, PLACE, PLACES, Procs, SECONDS, SLEEP, Turns, WAKE, numbers, waked, whole}
use Rattle.places.proofs.Laying.{procs-get, procs-live, procs-set}

-- the first i are changed
abbrev pub partly : (Process → Process) → ℕ → List Process → List Process
partly f i ps = map f (take i ps) ++ drop i ps

-- and marked where they wake
pub record Sweep (f : Process → Process) (ps : List Process) (used next : ℕ) (m : List ℕ) (n w bit i : ℕ) : Type 0 where
  pub count : n ≡ length ps
  pub fits : n ≤ PLACES
  pub inside : i ≤ n
  pub procs : Procs m (partly f i ps) used next
  pub marks : Marked (wakes_by f) ps w bit i
  pub few : w < 65536
  pub bound : bit ≤ 65536

pub calm : (a : Bool) → false ≡ (a && not a)
calm true = refl
calm false = refl

sweeps : {f : Process → Process} {ps : List Process} {used next : ℕ} {m : List ℕ} {n w bit i : ℕ} → n ≡ length ps → n ≤ PLACES → i ≤ n → Procs m (partly f i ps) used next → Marked (wakes_by f) ps w bit i → Sweep f ps used next m n w bit i
sweeps c b h l k =
    record { count = c; fits = b; inside = h; procs = l; marks = k; few = mark-small k (omega arith) (omega arith); bound = mark-bit k (omega arith) }

pub sweep : (f : Process → Process) {m : List ℕ} {ps : List Process} {used next : ℕ} → Procs m ps used next → Sweep f ps used next m (get_or m LIVE 0) 0 1 0
sweep f {ps = ps} l = sweeps (procs-live l) (rw (procs-live l) l.few) (omega arith) l (marked (wakes_by f) ps)

module _ {f : Process → Process} {ps : List Process} {used next : ℕ} {m : List ℕ} {n w bit i : ℕ} (k : Sweep f ps used next m n w bit i) (l : i < n) where
  in_list : i < length ps
  in_list = omega (arith, k.count)

  done : length (map f (take i ps)) ≡ i
  done = length-map (take i ps) f ∙ length-take-le i ps (let h = in_list in omega arith)

  in-part : i < length (partly f i ps)
  in-part = rw (length-append (map f (take i ps)) (drop i ps), done, length-drop i ps) (let h = in_list in omega arith)

  -- nobody ahead is changed
  ahead : get_or (partly f i ps) i no_process ≡ get_or ps i no_process
  ahead = rw (drop-cons ps i no_process in_list) (get_or_at (map f (take i ps)) (get_or ps i no_process) _ no_process i done)

  -- what the code reads is the process as it was
  pub sweep-get : (j : ℕ) → j < PLACE → get_or m (i * PLACE + j) 0 ≡ get_or (numbers (get_or ps i no_process)) j 0
  sweep-get j h = procs-get k.procs i in-part j h ∙ ap (λ (p : Process). get_or (numbers p) j 0) ahead

  pub sweep-whole : whole (get_or ps i no_process) ≡ true
  sweep-whole = rw ahead at (all-at whole (partly f i ps) no_process i in-part k.procs.whole)

  -- one is changed; b says whether it wakes
  pub sweep-set : (ss : List (ℕ × ℕ)) {v : ℕ} {b : Bool} → within PLACE ss ≡ true → changes (numbers (get_or ps i no_process)) ss ≡ numbers (f (get_or ps i no_process))
      → whole (f (get_or ps i no_process)) ≡ true → v ≡ w + cond b bit 0 → b ≡ wakes_by f (get_or ps i no_process) → Sweep f ps used next (stores PLACE m i ss) n v (bit * 2) (i + 1)
  sweep-set ss h e g a b =
      let q = f (get_or ps i no_process) in
      let x = procs-set k.procs i in-part ss q h (ap (λ (p : Process). changes (numbers p) ss) ahead ∙ e) g in
      sweeps k.count k.fits (omega arith) (rw (map_more f ps i no_process in_list) at x) (mark k.marks no_process in_list a b)

  -- one stays as it is
  pub sweep-same : f (get_or ps i no_process) ≡ get_or ps i no_process → Sweep f ps used next m n w (bit * 2) (i + 1)
  sweep-same e =
      sweeps k.count k.fits (omega arith) (rw (map_same f ps i no_process in_list e) at k.procs) (mark k.marks {b = false} no_process in_list (omega arith) (rw e (calm (sleeps (get_or ps i no_process)))))

  pub sweep-woken : (reason left : ℕ) → woken_by reason left (get_or ps i no_process) ≡ f (get_or ps i no_process) → sleeps (get_or ps i no_process) ≡ true
      → Sweep f ps used next (waked m i reason left) n (w + bit) (bit * 2) (i + 1)
  unfolding numbers whole
  sweep-woken reason left e h =
      sweep-set ((SLEEP, 0) ∷ (WAKE, reason) ∷ (SECONDS, 0) ∷ (LEFT, left) ∷ []) {b = true} refl (rw (← e)) (rw (← e) sweep-whole) refl (rw (h, ← e))

-- all of them
pub swept : {f : Process → Process} {ps : List Process} {used next : ℕ} {m : List ℕ} {n w bit i : ℕ} → Sweep f ps used next m n w bit i → n ≤ i → Procs m (map f ps) used next × (w ≡ mask (wakes_by f) ps)
swept {f} {ps} {i = i} k h =
    let a : length ps ≤ i = omega (arith, k.count) in (
      rw (take_all i ps a, drop_of_length-le ps {i = i} a, append-nil (map f ps)) at k.procs,
      k.marks.is ∙ ap (mask (wakes_by f)) (take_all i ps a),
    )

-- ---- lock sleepers, where these rows are left; x is what the code has found

module _ (rows : List Row) {ps : List Process} {next : ℕ} {m : List ℕ} {n w bit i : ℕ} (k : Sweep (granted rows) ps (length rows) next m n w bit i) (l : i < n) {t : List ℕ} {used : ℕ} (a : length rows ≡ used) (r : Shows t rows) {x : Bool}
    (f : (qs : List Process) (xs : List Row) (v : ℕ) → Procs m qs used v → i < length qs → Shows t xs → length xs ≡ used → x ≡ is_granted xs (get_or qs i no_process)) where
  found : x ≡ is_granted rows (get_or ps i no_process)
  found = f (partly (granted rows) i ps) rows next (rw a at k.procs) (in-part k l) r a ∙ ap (is_granted rows) (ahead k l)

  pub grant-stays : x ≡ false → Sweep (granted rows) ps (length rows) next m n w (bit * 2) (i + 1)
  grant-stays h = sweep-same k l (still-asleep rows (get_or ps i no_process) (sym found ∙ h))

  pub grant-woken : x ≡ true → Sweep (granted rows) ps (length rows) next (waked m i 1 0) n (w + bit) (bit * 2) (i + 1)
  grant-woken h =
      let g = sym found ∙ h in
      sweep-woken k l 1 0 (wakes rows (get_or ps i no_process) g) (was-asleep rows (get_or ps i no_process) g)

-- ---- one process changed by a function of the code

pub sweep-turn : {f g : Process → Process} {ps : List Process} {used next : ℕ} {m u : List ℕ} {n w bit i v : ℕ} {b : Bool} → Sweep f ps used next m n w bit i → i < n → Turns g m i u → g (get_or ps i no_process) ≡ f (get_or ps i no_process)
    → v ≡ w + cond b bit 0 → ((qs : List Process) (x y : ℕ) → Procs m qs x y → i < length qs → b ≡ wakes_by f (get_or qs i no_process)) → Sweep f ps used next u n v (bit * 2) (i + 1)
sweep-turn {f} {g} {ps} {used} {next} {i = i} k l c e a h =
    let x = rw (ahead k l, e, map_more f ps i no_process (in_list k l)) at (c.is k.procs (in-part k l)) in
    sweeps k.count k.fits (omega arith) x (mark k.marks no_process (in_list k l) a (h (partly f i ps) used next k.procs (in-part k l) ∙ ap (wakes_by f) (ahead k l)))
