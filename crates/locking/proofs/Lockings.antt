-- Lock: refused, or the row comes last; where it waits its owner sleeps. Assumes nothing.
use Prim.Native.Nat.{ℕ, ◌+◌, ◌*◌, ◌≤◌, ◌<◌}
use native.Mathlib.Omega.{arith}
use mathlib.Core.Path.{◌≡◌, refl, sym, ap, ◌∙◌}
use mathlib.Core.Bool.{Bool, true, false, cond, ◌||◌, and-false, true≢false}
use mathlib.Core.Logic.{◌↔◌}
use mathlib.Core.List.{List, [], ◌∷◌, ◌++◌}
use lib.Dec.{eqb, leb, ltb}
use lib.ListN.{length, get_or, set, length-append}
use borrow.Author.Tests.{eq-eqb, ne_eqb, le-ltb}
use Rattle.locks.specs.Rows.{standing_of, waits, has_twin}
use Rattle.locks.specs.declared.rows.Row.{Row}
use Rattle.locks.specs.declared.rows.Standing.{Standing}
use Rattle.locks.specs.declared.rows.Standing.TheVariants.{Held, Waits, Free}
use Rattle.locks.proofs.Tests.{off}
use Rattle.chains.specs.Chains.{Link, Chain, leads_back}
use Rattle.chains.proofs.Chains.{deadlock-exact}
use Rattle.rules.specs.State.{Machine, no_process, for_lock, asleep_for, put}
use Rattle.rules.specs.Outcome.{badcall, deadlock, done, held, lcktable, locked, now_asleep}
use Rattle.rules.specs.Calls.{appended, asks_shared, bad_sequence, do_lock, lock_row, queued, row_of}
use Rattle.rules.specs.declared.state.Process.{Process}
use Rattle.rules.specs.declared.state.Event.{Event}
use Rattle.places.proofs.Masking.{same-masks}
use Rattle.locks.specs.Cells.{Rows}
use Rattle.locks.specs.Pieces.{stores}
use Rattle.places.specs.Places.{Calls, Laid, Lays, PLACE, ROWS, SECONDS, SLEEP, USED, caller, machine, numbers, whole}
use Rattle.locking.specs.Queued.{Fills, MayNot, held_or_full, waits_or_not}
use Rattle.places.specs.Settled.{Settled, answer_of, told}
use Rattle.std.specs.Prelude.{Err}
use Rattle.rules.specs.declared.outcome.Refusal.{Refusal}
use Rattle.locking.specs.Queued.MayNot.{dead, full}
use Rattle.rules.specs.Reply.{four_of}
use Rattle.places.proofs.Callings.{calls-here, calls-put, calls-quiet, machine-ok}
use Rattle.places.proofs.Laying.{lays-rows, procs-set, procs-used}
use Rattle.places.proofs.Settling.{settled-first, settled-past, settled-quiet, settled-second, settled-under, settled-when}
use Rattle.places.proofs.Turning.{at-whole}

-- ---- one row more, and its owner asleep

pub lays-appended : {m t u : List ℕ} {s : Machine} → Lays m t s → (r : Row) → Rows u (s.rows ++ r ∷ []) → {used : ℕ} → used ≡ length s.rows → used < ROWS → Lays (set m USED (used + 1)) u (appended r s)
unfolding appended
lays-appended {s = s} l r a {used} e b =
    let n : length (s.rows ++ r ∷ []) ≡ used + 1 = length-append s.rows (r ∷ []) ∙ rw e in
    rw (← n) (lays-rows l (s.rows ++ r ∷ []) a (rw n (omega arith)))

pub lays-asleep : {m t : List ℕ} {s : Machine} → Lays m t s → {i : ℕ} → i < length s.procs
    → Lays (stores PLACE m i ((SLEEP, for_lock) ∷ (SECONDS, 0) ∷ [])) t (record { procs = set s.procs i (asleep_for for_lock 0 (get_or s.procs i no_process)); rows = s.rows; next = s.next })
unfolding numbers whole
lays-asleep {s = s} l {i} h =
    record {
      procs = procs-set l.procs i h ((SLEEP, for_lock) ∷ (SECONDS, 0) ∷ []) (asleep_for for_lock 0 (get_or s.procs i no_process)) refl refl (at-whole l.procs h);
      rows = l.rows;
      used = l.used;
    }

-- ---- held

pub laid-rows : {m t : List ℕ} → Laid m t → {used : ℕ} → used ≡ get_or m USED 0 → used ≡ length (machine m t).rows
laid-rows l e = e ∙ procs-used l.lays.procs

module _ {m t : List ℕ} {used : ℕ} (f : Fills m t used) (r : Row) {out : List ℕ} where
  pub hold-full : used ≡ ROWS → out ≡ four_of (answer_of 3 13 0 0) → Settled (machine m t) (held_or_full r (machine m t)) out m t
  hold-full e o = settled-when lcktable _ (eq-eqb _ ROWS (sym (laid-rows f.laid f.count) ∙ e)) f.laid.lays o

  pub hold-done : (used ≡ ROWS → ⊥) → {u : List ℕ} → Rows u ((machine m t).rows ++ r ∷ []) → out ≡ four_of (answer_of 0 0 0 0) → Settled (machine m t) (held_or_full r (machine m t)) out (set m USED (used + 1)) u
  unfolding appended
  hold-done d a o =
      settled-past lcktable (ne_eqb _ ROWS (λ e. d (laid-rows f.laid f.count ∙ e)))
      (settled-quiet done 0 0 (lays-appended f.laid.lays r a (laid-rows f.laid f.count) (let b = f.laid.used in omega (arith, f.count))) (same-masks (machine m t) (appended r (machine m t)) (machine-ok f.laid.lays f.sound) refl) o)

-- ---- it waits

pub leads-exact : {b : Bool} (rows : List Row) (r : Row) → (b ≡ true) ↔ Chain (Link (rows ++ r ∷ [])) r.owner r.owner → b ≡ leads_back rows r
leads-exact {b = true} rows r h = sym ((deadlock-exact rows r).1 (h.0 refl))
leads-exact {b = false} rows r h = sym (off (leads_back rows r) (λ x. true≢false (sym (h.1 ((deadlock-exact rows r).0 x)))))

-- the row is taken back
back : {m t u : List ℕ} → Laid m t → Rows u (machine m t).rows → Lays m u (machine m t)
back l a = record { procs = l.lays.procs; rows = a; used = l.lays.used }

-- a refusal of the new row is that of the outcome
pub queue-not : {m t u : List ℕ} {i : ℕ} → Calls m t i → (r : Row) {n : Refusal} → MayNot (machine m t).rows r n → Rows u (machine m t).rows → Settled (machine m t) (waits_or_not (caller m t i) r (machine m t)) (told (Err n)) m u
queue-not c r (dead h) a = settled-when deadlock _ h (back c.laid a) refl
queue-not c r (full h f) a = settled-past deadlock h (settled-when lcktable _ (eq-eqb _ ROWS f) (back c.laid a) refl)

module _ {m t : List ℕ} {i used : ℕ} (c : Calls m t i) (e : used ≡ get_or m USED 0) (r : Row) {out u : List ℕ} where
  module _ (h : leads_back (machine m t).rows r ≡ false) where
    pub queue-done : (length (machine m t).rows ≡ ROWS → ⊥) → Rows u ((machine m t).rows ++ r ∷ []) → {v w : List ℕ} → v ≡ set (set m USED (used + 1)) (i * PLACE + SLEEP) for_lock → w ≡ set v (i * PLACE + SECONDS) 0
        → out ≡ four_of (answer_of 1 0 0 0) → Settled (machine m t) (waits_or_not (caller m t i) r (machine m t)) out w u
    unfolding appended put
    queue-done d a j k o =
        let q = asleep_for for_lock 0 (caller m t i) in
        let l = lays-asleep (lays-appended c.laid.lays r a (laid-rows c.laid e) (let b = c.laid.lays.used in omega (arith, laid-rows c.laid e))) (calls-here c) in
        settled-past deadlock h
        (settled-past lcktable (ne_eqb _ ROWS d)
        (settled-quiet now_asleep 0 0 (rw (k, j, calls-put c q refl) l) (calls-quiet c q refl (put q (appended r (machine m t))) (calls-put c q refl)) o))

-- ---- how the request stands

abbrev is_held : Standing → Bool
is_held Held = true
is_held Waits = false
is_held Free = false

abbrev is_waiting : Standing → Bool
is_waiting Held = false
is_waiting Waits = true
is_waiting Free = false

module _ (rows : List Row) (r : Row) {x : Standing} (e : x ≡ standing_of rows r) where
  stands-twin : has_twin r rows ≡ is_held x
  unfolding standing_of
  stands-twin = go (has_twin r rows) (waits rows r) ∙ ap is_held (sym e)
    where
      go : (a b : Bool) → a ≡ is_held (cond a Held (cond b Waits Free))
      go true b = refl
      go false true = refl
      go false false = refl

  stands-waits : has_twin r rows ≡ false → waits rows r ≡ is_waiting x
  unfolding standing_of
  stands-waits h =
      let f : x ≡ cond (waits rows r) Waits Free = e ∙ rw h in
      go (waits rows r) ∙ ap is_waiting (sym f)
    where
      go : (b : Bool) → b ≡ is_waiting (cond b Waits Free)
      go true = refl
      go false = refl

-- ---- the checks of lock, in their order

module _ {s : Machine} (p : Process) (e : Event) (r : Row) {out m t : List ℕ} where
  pub lock-held : Held ≡ standing_of s.rows r → Lays m t s → out ≡ four_of (answer_of 3 10 0 0) → Settled s (lock_row p e r s) out m t
  unfolding lock_row
  lock-held h l o = settled-when held _ (stands-twin s.rows r h) l o

  pub lock-free : Free ≡ standing_of s.rows r → Settled s (held_or_full r s) out m t → Settled s (lock_row p e r s) out m t
  unfolding lock_row queued
  lock-free h c =
      let a = stands-twin s.rows r h in
      let w = stands-waits s.rows r h a in
      settled-past held a (settled-past locked (rw w) (settled-past deadlock (rw w) (settled-under (eqb (length s.rows) ROWS) lcktable (settled-second _ w) c)))

  module _ (h : Waits ≡ standing_of s.rows r) where
    pub lock-locked : leb 2 e.d2 ≡ true → Lays m t s → out ≡ four_of (answer_of 3 11 0 0) → Settled s (lock_row p e r s) out m t
    unfolding lock_row
    lock-locked d l o =
        let a = stands-twin s.rows r h in
        let w = stands-waits s.rows r h a in
        settled-past held a (settled-when locked _ (rw (w, d)) l o)

    pub lock-waits : leb 2 e.d2 ≡ false → Settled s (waits_or_not p r s) out m t → Settled s (lock_row p e r s) out m t
    unfolding lock_row queued
    lock-waits d c =
        let a = stands-twin s.rows r h in
        let w = stands-waits s.rows r h a in
        settled-past held a
        (settled-past locked (rw d (and-false (waits s.rows r)))
        (rw w (settled-under (leads_back s.rows r) deadlock (settled-under (eqb (length s.rows) ROWS) lcktable (settled-first _ refl)) c)))

module _ {s : Machine} (p : Process) (e : Event) {out m t : List ℕ} where
  pub lock-bad : (ltb 3 e.d2 || bad_sequence e) ≡ true → Lays m t s → out ≡ four_of (answer_of 3 5 0 0) → Settled s (do_lock p e s) out m t
  unfolding do_lock
  lock-bad h l o = settled-when badcall _ h l o

  pub lock-on : {b : Bool} → e.d2 ≤ 3 → bad_sequence e ≡ false → b ≡ asks_shared e → Settled s (lock_row p e (row_of p e b) s) out m t → Settled s (do_lock p e s) out m t
  unfolding do_lock
  lock-on l h g c = settled-past badcall (rw (le-ltb 3 e.d2 l) h) (rw g at c)
