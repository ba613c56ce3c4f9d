-- The rows that wait, found in one pass over the rows. Assumes nothing.
use Rattle.std.proofs.Common.{ap, eq-eqb, eqb-true, leb-true, ◌≡◌, ◌∙◌, ℕ, ◌+◌, ◌≤◌, ◌<◌, Bool, true, false, cond, ◌&&◌, ◌||◌, not, List, [], ◌∷◌, ◌++◌, eqb, length, length-append, length-set, get_or, set, take, arith, add-one, get_or-set_other, refl, sym}
use mathlib.Core.Bool.{and-true, and-false, or-true, or-false, false≢true}
use Rattle.std.proofs.Math.ListN.{replicate}
use Rattle.std.proofs.lemmas.List.Sums.{sum_by-cons}
use Rattle.std.proofs.Math.Seq.{take-suc}
use Rattle.std.specs.List.{count_by}
use Rattle.locks.specs.Lists.{any, all, agree, cons_if}
use Rattle.locks.specs.Rows.{same_sequence, conflict, owns, twin, has_twin, waits, waits_of, waiting_of, standing_of, sound_row, apart}
use Rattle.locks.specs.Cells.{WORDS, Rows, laid_cells, words}
use Rattle.locks.specs.Lists.{padded}
use Rattle.locks.specs.Rows.{no_row}
use Rattle.locks.specs.declared.rows.Row.{Row}
use Rattle.locks.specs.declared.rows.Standing.TheVariants.{Held, Waits, Free}
use Rattle.locks.proofs.Tests.{cases, off, and_split}
use Rattle.locks.specs.Words.{fit_row}
use Rattle.locks.proofs.Bytes.{fit_parts}
use Rattle.locks.proofs.Loops.{agree_at}
use Rattle.locks.proofs.Lists.{all_end, sift-append, any-end, any-mono}
use Rattle.std.proofs.lemmas.Bool.{eqb-false}
use Rattle.std.proofs.lemmas.List.{get_or-replicate, take_more_set}
use lib.Seq.{get_or-set_same}
use Rattle.soundness.proofs.Whole.{sound-fit}
use Rattle.locks.proofs.Fewer.{fewer-apart, fewer-take}
use Rattle.soundness.specs.Waiting.{count_of, Waiting, sound_waiting}
use Rattle.std.specs.List.{list_all}
use Rattle.rules.specs.Sound.{sound_process, lock_fits}
use Rattle.rules.specs.declared.state.Process.{Process}

-- what a read past the rows' end would give
abbrev pub blank : Row
blank = record { owner = 0; shared = false; len = 0; bytes = [] }

-- ---- a count, with one element more

count_end : {X : Type 0} (p : X → Bool) (xs : List X) (y : X) → count_by p (xs ++ y ∷ []) ≡ count_by p xs + cond (p y) 1 0
count_end {X} p [] y = let f : X → ℕ = λ x. cond (p x) 1 0 in rw (sum_by-cons f y []) (omega arith)
count_end {X} p (x ∷ xs) y = let f : X → ℕ = λ x. cond (p x) 1 0 in rw (sum_by-cons f x (xs ++ y ∷ []), sum_by-cons f x xs, count_end p xs y) (omega arith)

-- ---- no two rows of an owner for one sequence

regroup : (a b c d : Bool) → (not (a || b) && (c && not d)) ≡ (not a && c && not (b || d))
regroup true b c d = refl
regroup false true c d = sym (and-false c)
regroup false false c d = refl

apart-end : (rows : List Row) (r : Row) → apart (rows ++ r ∷ []) ≡ (apart rows && not (any (twin r) rows))
unfolding apart
apart-end [] r = refl
apart-end (q ∷ rows) r = rw (any-end (λ x. twin x q) rows r, apart-end rows r) (regroup (any (λ x. twin x q) rows) (twin r q) (apart rows) (any (twin r) rows))

pub not-apart : (rows : List Row) (i : ℕ) (d : Row) → i < length rows → has_twin (get_or rows i d) (take i rows) ≡ true → apart rows ≡ false
unfolding has_twin
not-apart rows i d l h =
    off (apart rows)
    (λ a.
    let e : apart (take (i + 1) rows) ≡ true = fewer-apart (fewer-take (i + 1) rows) a in
    let f : (apart (take i rows) && not (any (twin (get_or rows i d)) (take i rows))) ≡ true = rw (← apart-end (take i rows) (get_or rows i d), ← take-suc rows i d l, ← add-one i) e in
    let g : (apart (take i rows) && false) ≡ true = rw h at f in
    false≢true (rw and-false at g))

-- ---- a row whose first byte is new

abbrev pub first_of : Row → ℕ
first_of r = get_or r.bytes 0 0

-- a row ahead has this first byte
abbrev pub has_first : ℕ → List Row → Bool
has_first b rows = any (λ q. eqb (first_of q) b) rows

module _ (r : Row) (h : fit_row r ≡ true) where
  first-same : (q : Row) → same_sequence r q ≡ true → eqb (first_of q) (first_of r) ≡ true
  unfolding same_sequence
  first-same q e =
      let l : 1 ≤ r.len = leb-true 1 r.len (and_split _ _ (fit_parts r h).0).0 in
      eq-eqb (first_of q) (first_of r) (sym (agree_at r.len r.bytes q.bytes (and_split (eqb r.len q.len) (agree r.len r.bytes q.bytes) e).1 0 l))

  module _ (rows : List Row) (n : has_first (first_of r) rows ≡ false) where
    none : (f : Row → Bool) → ((q : Row) → f q ≡ true → same_sequence r q ≡ true) → any f rows ≡ false
    none f i = off (any f rows) (λ k. false≢true (sym n ∙ any-mono f (λ q. eqb (first_of q) (first_of r)) (λ q e. first-same q (i q e)) rows k))

    new-alone : any (twin r) rows ≡ false
    unfolding twin
    new-alone = none (twin r) (λ q e. (and_split (owns r.owner q) (same_sequence r q) e).1)

    new-holds : waits rows r ≡ false
    unfolding conflict waits
    new-holds = none (conflict r) (λ q e. (and_split (same_sequence r q) (not (eqb r.owner q.owner)) (and_split (same_sequence r q && not (eqb r.owner q.owner)) (not (r.shared && q.shared)) e).0).0)

-- ---- how a row stands

pub record Stands (rows : List Row) (r : Row) (waiting : Bool) : Type 0 where
  pub alone : any (twin r) rows ≡ false
  pub found : waits rows r ≡ waiting

module _ (rows : List Row) (r : Row) where
  pub stands-held : standing_of rows r ≡ Held → has_twin r rows ≡ true
  unfolding standing_of
  stands-held h =
      cases (has_twin r rows) (λ t. t)
      (λ t. cases (waits rows r) (λ w. let n : Waits ≡ Held = rw (t, w) at h in cc) (λ w. let n : Free ≡ Held = rw (t, w) at h in cc))

  pub stands-waits : standing_of rows r ≡ Waits → Stands rows r true
  unfolding standing_of has_twin
  stands-waits h =
      cases (any (twin r) rows) (λ t. let n : Held ≡ Waits = rw t at h in absurd (cc))
      (λ t. cases (waits rows r) (λ w. record { alone = t; found = w }) (λ w. let n : Free ≡ Waits = rw (t, w) at h in absurd (cc)))

  pub stands-free : standing_of rows r ≡ Free → Stands rows r false
  unfolding standing_of has_twin
  stands-free h =
      cases (any (twin r) rows) (λ t. let n : Held ≡ Free = rw t at h in absurd (cc))
      (λ t. cases (waits rows r) (λ w. let n : Waits ≡ Free = rw (t, w) at h in absurd (cc)) (λ w. record { alone = t; found = w }))

-- ---- the first rows

-- they stand in the cells, their first bytes are seen, and those that wait are told
pub record Watched (live : List ℕ) (rows : List Row) (cells : List ℕ) (seen : List Bool) (owners : List ℕ) (count : ℕ) : Type 0 where
  pub laid : Rows cells rows
  pub waiting : Waiting live rows (take count owners)
  pub long : length owners ≡ 32
  pub few : count ≤ length rows
  pub seen_size : length seen ≡ 256
  pub firsts : (b : ℕ) → b < 256 → get_or seen b false ≡ has_first b rows

pub watched_none : {live : List ℕ} → Watched live [] (replicate WORDS 0) (replicate 256 false) (replicate 32 0) 0
unfolding apart waiting_of laid_cells padded no_row words
watched_none = record {
  laid = record { is = refl; few = omega arith; whole = refl };
  waiting = record { fit = refl; them = λ n. refl };
  long = refl;
  few = omega arith;
  seen_size = refl;
  firsts = λ b l. get_or-replicate 256 b false false l;
}

waiting-end : (n : ℕ) (rows : List Row) (r : Row) → length (waiting_of n (rows ++ r ∷ [])) ≡ length (waiting_of n rows) + cond (eqb r.owner n && waits rows r) 1 0
unfolding waiting_of waits_of
waiting-end n rows r =
    let e : length (cons_if (eqb r.owner n && waits rows r) r []) ≡ cond (eqb r.owner n && waits rows r) 1 0 = cases (eqb r.owner n && waits rows r) (λ h. rw h) (λ h. rw h) in
    rw (sift-append (waits_of n) [] rows (r ∷ []), length-append, e)

module _ {live : List ℕ} {rows : List Row} {cells : List ℕ} {seen : List Bool} {owners : List ℕ} {count : ℕ} (p : Watched live rows cells seen owners count) (r : Row) (f : sound_row live r ≡ true) where
  pub first-new : first_of r < 256 → get_or seen (first_of r) false ≡ false → Stands rows r false
  first-new l e =
      let n = sym (p.firsts (first_of r) l) ∙ e in
      let h = sound-fit live r f in
      record { alone = new-alone r h rows n; found = new-holds r h rows n }

  module _ {to : List ℕ} (x : Rows to (rows ++ r ∷ [])) (l : first_of r < 256) where
    fit-end : any (twin r) rows ≡ false → (all (sound_row live) (rows ++ r ∷ []) && apart (rows ++ r ∷ [])) ≡ true
    fit-end n =
        let s = and_split (all (sound_row live) rows) (apart rows) p.waiting.fit in
        rw (all_end (sound_row live) rows r s.0 f, apart-end rows r, s.1, n)

    first-told : (b : ℕ) → b < 256 → get_or (set seen (first_of r) true) b false ≡ has_first b (rows ++ r ∷ [])
    first-told b n =
        let e : has_first b (rows ++ r ∷ []) ≡ (has_first b rows || eqb (first_of r) b) = any-end (λ q. eqb (first_of q) b) rows r in
        cases (eqb (first_of r) b)
        (λ h. ap (λ y. get_or (set seen (first_of r) true) y false) (sym (eqb-true (first_of r) b h)) ∙ get_or-set_same seen (first_of r) true false (rw p.seen_size l) ∙ sym (e ∙ rw (h, or-true)))
        (λ h.
        let d : first_of r ≡ b → ⊥ = eqb-false (first_of r) b h in
        get_or-set_other seen (first_of r) b true false (λ z. d (sym z)) ∙ p.firsts b n ∙ sym (e ∙ rw (h, or-false)))

    abbrev Next : List ℕ → ℕ → Type 0
    Next = Watched live (rows ++ r ∷ []) to (set seen (first_of r) true)

    pub watched-holds : Stands rows r false → Next owners count
    watched-holds s = record {
      laid = x;
      waiting = record { fit = fit-end s.alone; them = λ n. p.waiting.them n ∙ rw (waiting-end n rows r, s.found, and-false) (omega arith) };
      long = p.long;
      few = omega (arith, p.few, length-append rows (r ∷ []));
      seen_size = length-set seen (first_of r) true ∙ p.seen_size;
      firsts = first-told;
    }

    pub watched-waits : length rows < 32 → Stands rows r true → Next (set owners count r.owner) (count + 1)
    watched-waits m s =
        let k : count < length owners = omega (arith, p.few, p.long) in
        let e : take (count + 1) (set owners count r.owner) ≡ take count owners ++ r.owner ∷ [] = take_more_set owners count r.owner k in
        record {
          laid = x;
          waiting = record {
            fit = fit-end s.alone;
            them = λ n. rw (e, count_end (λ y. eqb y n) (take count owners) r.owner, p.waiting.them n, waiting-end n rows r, s.found, and-true);
          };
          long = length-set owners count r.owner ∙ p.long;
          few = omega (arith, p.few, length-append rows (r ∷ []));
          seen_size = length-set seen (first_of r) true ∙ p.seen_size;
          firsts = first-told;
        }

-- ---- processes

-- each is tested with the number of its rows that wait
pub sound-told : {live : List ℕ} {rows : List Row} {owners : List ℕ} → Waiting live rows owners → (ps : List Process) → list_all (λ p. sound_waiting (count_of p.pid owners) p) ps ≡ all (sound_process rows) ps
unfolding sound_waiting sound_process lock_fits
sound-told w [] = refl
sound-told w (p ∷ ps) = rw (w.them p.pid, sound-told w ps)
