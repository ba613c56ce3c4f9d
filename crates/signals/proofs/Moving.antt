-- Processes move up in their array. Assumes nothing.
use Prim.Native.Nat.{ℕ, zero, suc, ◌+◌, ◌-◌, ◌*◌, ◌≤◌, ◌<◌}
use native.Mathlib.Omega.{arith}
use native.Mathlib.Numerals.{add-one}
use mathlib.Core.Path.{◌≡◌, refl, sym, ap, ◌∙◌}
use mathlib.Core.Bool.{not}
use mathlib.Core.List.{List, [], ◌∷◌, ◌++◌, append-nil, append_assoc}
use lib.ListN.{length, get_or, take, drop, set, replicate, length-set, replicate-append-replicate}
use lib.Seq.{paste, length-take-le, set_at, set-get_or, drop-append_seam, drop-drop, take_all, take-suc}
use borrow.Rule.Slice.PartMut.{put_mid}
use borrow.Author.Tests.{eq-eqb, ne_eqb}
use Rattle.locks.specs.Lists.{padded, keep}
use Rattle.locks.proofs.Fewer.{fewer-keep, fewer-all}
use Rattle.rules.specs.State.{no_process, new_process, has}
use Rattle.rules.specs.declared.state.Process.{Process}
use Rattle.locks.specs.Pieces.{joined}
use Rattle.locks.specs.Gaps.{unused}
use Rattle.signals.specs.Moved.{Moved, Places}
use Rattle.places.specs.Places.{Housed, LIVE, NEXT, PID, PLACE, PLACES, Procs, USED, laid_procs, numbers, procs_in, whole}
use Rattle.locks.proofs.Lists.{keep_append}
use Rattle.locks.proofs.Closing.{Closes, closing, next-goes, next-is, next-stays, unused-all}
use Rattle.locks.proofs.Padding.{padded-get, padded-length}
use Rattle.places.proofs.Laying.{procs-live, wide}
use Rattle.locks.proofs.Pieces.{joined-append, joined-drop, joined-get, joined_length, joined-paste, joined-take, piece-at}

-- ---- places

module _ {m : List ℕ} {ys : List Process} {z : List ℕ} (p : Places m ys z) where
  pub places-copy : (to from : ℕ) → to < 16 → from < 16 → Places (paste m (to * PLACE) (drop (from * PLACE) m) PLACE) (set ys to (get_or ys from no_process)) z
  places-copy to from a b =
      record {
        is =
            ap (λ (x : List ℕ). paste x (to * PLACE) (drop (from * PLACE) x) PLACE) p.is
            ∙ joined-paste numbers PLACE wide ys z to (drop (from * PLACE) (joined numbers ys ++ z)) (get_or ys from no_process) (omega (arith, p.long)) (piece-at numbers PLACE wide ys z from no_process (omega (arith, p.long)));
        long = length-set ys to (get_or ys from no_process) ∙ p.long;
      }

-- ---- those that stay, moved up

abbrev counts : List Process → ℕ → ℕ → List ℕ
counts ps used next = length ps ∷ used ∷ next ∷ []

-- of the first i processes, those of another PID
abbrev stay : ℕ → List Process → ℕ → List Process
stay n ps i = keep (λ p. not (has n p)) (take i ps)

pub record Moves (n : ℕ) (ps : List Process) (used next : ℕ) (m : List ℕ) (k i : ℕ) : Type 0 where
  pub ys : List Process
  pub places : Places m ys (counts ps used next)
  pub closes : Closes (stay n ps i) (padded PLACES no_process ps) ys k i
  pub behind : k ≤ i

moves : {n : ℕ} {ps : List Process} {used next : ℕ} {m : List ℕ} {k i : ℕ} (ys : List Process) → Places m ys (counts ps used next) → Closes (stay n ps i) (padded PLACES no_process ps) ys k i → Moves n ps used next m k i
moves ys p c = record { ys = ys; places = p; closes = c; behind = c.behind }

pub moving : (n : ℕ) {m : List ℕ} {ps : List Process} {used next : ℕ} → Procs m ps used next → Moves n ps used next m 0 0
unfolding laid_procs
moving n {ps = ps} l = moves (padded PLACES no_process ps) (record { is = l.is; long = padded-length PLACES no_process ps l.few }) (closing (padded PLACES no_process ps))

module _ {n : ℕ} {ps : List Process} {used after : ℕ} {m : List ℕ} {k i x : ℕ} (c : Moves n ps used after m k i) (few : length ps ≤ 16) (l : i < length ps) (e : x ≡ get_or m (i * PLACE + PID) 0) where
  in-places : i < length (padded PLACES no_process ps)
  in-places = rw (padded-length PLACES no_process ps few) (omega arith)

  is-process : get_or (padded PLACES no_process ps) i no_process ≡ get_or ps i no_process
  is-process = padded-get PLACES no_process no_process ps i l

  is-pid : x ≡ (get_or ps i no_process).pid
  unfolding numbers
  is-pid =
      e ∙ ap (λ (y : List ℕ). get_or y (i * PLACE + PID) 0) c.places.is
      ∙ joined-get numbers PLACE wide c.ys (counts ps used after) i no_process (omega (arith, c.places.long)) 0 (omega arith)
      ∙ ap (λ (p : Process). p.pid) (next-is c.closes no_process in-places ∙ is-process)

  next : stay n ps (i + 1) ≡ stay n ps i ++ keep (λ p. not (has n p)) (get_or ps i no_process ∷ [])
  next = rw (add-one i, take-suc ps i no_process l) (keep_append (λ p. not (has n p)) (take i ps) (get_or ps i no_process ∷ []))

  pub move-gone : x ≡ n → Moves n ps used after m k (i + 1)
  move-gone h = moves c.ys c.places (rw (next, eq-eqb (get_or ps i no_process).pid n (sym is-pid ∙ h), append-nil) (next-goes c.closes no_process in-places))

  module _ (h : x ≡ n → ⊥) where
    kept : Closes (stay n ps (i + 1)) (padded PLACES no_process ps) (set c.ys k (get_or c.ys i no_process)) (k + 1) (i + 1)
    kept = rw (next, ne_eqb (get_or ps i no_process).pid n (λ g. h (is-pid ∙ g))) (rw is-process at (next-stays c.closes no_process in-places))

    pub move_up : k < i → Moves n ps used after (paste m (k * PLACE) (drop (i * PLACE) m) PLACE) (k + 1) (i + 1)
    move_up b = moves (set c.ys k (get_or c.ys i no_process)) (places-copy c.places k i (omega arith) (omega arith)) kept

    pub move-none : i ≤ k → Moves n ps used after m (k + 1) (i + 1)
    move-none b =
        let o : k ≡ i = omega (arith, c.behind) in
        let s : set c.ys k (get_or c.ys i no_process) ≡ c.ys = rw o (set-get_or c.ys i no_process) in
        moves c.ys c.places (rw s at kept)

-- all who stay have moved
pub moved : {n : ℕ} {m u : List ℕ} {k i : ℕ} → Housed m → Moves n (procs_in m) (get_or m USED 0) (get_or m NEXT 0) u k i → i ≡ get_or m LIVE 0 → Moved n m u k
unfolding padded
moved {n} {m} {u} {k} {i} h c o =
    let ps = procs_in m in
    let live : get_or m LIVE 0 ≡ length ps = procs-live h.procs in
    let e : i ≡ length ps = o ∙ live in
    record {
      ys = c.ys;
      places = rw live c.places;
      kept = c.closes.kept ∙ ap (keep (λ p. not (has n p))) (take_all i ps (omega arith));
      behind = rw (live, ← e) (c.closes.ahead ∙ rw e (drop-append_seam ps (replicate (PLACES - length ps) no_process)));
      fewer = omega (arith, c.behind);
    }

-- ---- the places that are left

zeros : (n : ℕ) → replicate (n * PLACE) 0 ≡ joined numbers (replicate n no_process)
unfolding numbers no_process new_process
zeros zero = refl
zeros (suc n) = let e : suc n * PLACE ≡ PLACE + n * PLACE = omega arith in rw (e, ← replicate-append-replicate {A = ℕ} PLACE (n * PLACE) 0, zeros n)

-- those from k to n become zero
pub cleared : {m zs z : List ℕ} {ys : List Process} → Places m ys z → (k n : ℕ) → k ≤ n → n ≤ PLACES → zs ≡ replicate (n * PLACE - k * PLACE) 0
    → put_mid (k * PLACE) (n * PLACE - k * PLACE) m zs ≡ joined numbers (unused no_process k n ys) ++ z
cleared {m} {zs} {z} {ys} p k n l b e =
    let gap = replicate (n - k) no_process in
    let o : k * PLACE + (n * PLACE - k * PLACE) ≡ n * PLACE = omega arith in
    let w : n * PLACE - k * PLACE ≡ (n - k) * PLACE = omega arith in
    let first : take (k * PLACE) m ≡ joined numbers (take k ys) = rw p.is (joined-take numbers PLACE wide ys z k (omega (arith, p.long))) in
    let last : drop (n * PLACE) m ≡ joined numbers (drop n ys) ++ z = rw p.is (joined-drop numbers PLACE wide ys z n (omega (arith, p.long))) in
    let middle : zs ≡ joined numbers gap = rw (e, w) (zeros (n - k)) in
    rw (drop-drop, o, first, last, middle, joined-append numbers PLACE wide (take k ys) (gap ++ drop n ys), joined-append numbers PLACE wide gap (drop n ys), append_assoc (joined numbers (take k ys)) (joined numbers gap ++ joined numbers (drop n ys)) z, append_assoc (joined numbers gap) (joined numbers (drop n ys)) z)

-- a process has gone
pub removed : {n : ℕ} {m u zs : List ℕ} {k : ℕ} → Housed m → Moved n m u k → zs ≡ replicate (get_or m LIVE 0 * PLACE - k * PLACE) 0
    → Procs (set (put_mid (k * PLACE) (get_or m LIVE 0 * PLACE - k * PLACE) u zs) LIVE k) (keep (λ p. not (has n p)) (procs_in m)) (get_or m USED 0) (get_or m NEXT 0)
unfolding laid_procs
removed {n} {m} {u} {zs} {k} h c z =
    let ps = procs_in m in
    let rest = keep (λ p. not (has n p)) ps in
    let live = get_or m LIVE 0 in
    let ys = unused no_process k live c.ys in
    let e : k ≡ length rest = sym (length-take-le k c.ys (omega (arith, c.fewer, h.live, c.places.long))) ∙ ap length c.kept in
    let all : ys ≡ padded PLACES no_process rest = unused-all no_process k c.ys c.kept e c.fewer h.live c.behind in
    let few : length rest ≤ PLACES = omega (arith, c.fewer, h.live) in
    record {
      is =
          ap (λ (x : List ℕ). set x LIVE k) (cleared c.places k live c.fewer h.live z)
          ∙ set_at (joined numbers ys) live (get_or m USED 0 ∷ get_or m NEXT 0 ∷ []) k LIVE (joined_length numbers PLACE wide ys ∙ rw (all, padded-length PLACES no_process rest few))
          ∙ rw (all, e);
      few = few;
      whole = fewer-all whole (fewer-keep (λ p. not (has n p)) ps) h.procs.whole;
    }
