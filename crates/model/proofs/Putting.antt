-- Processes and rows put into arrays of zeros, one after another. Assumes nothing.
use Prim.Native.Nat.{ℕ, ◌+◌, ◌*◌, ◌≤◌, ◌<◌}
use native.Mathlib.Omega.{arith}
use native.Mathlib.Numerals.{add-one}
use mathlib.Core.Path.{◌≡◌, refl, sym, ap, ◌∙◌}
use mathlib.Core.Bool.{true}
use mathlib.Core.List.{List, [], ◌∷◌, ◌++◌}
use lib.ListN.{length, get_or, take, set, replicate}
use lib.Seq.{take-suc, length-take-le}
use borrow.Author.Tests.{lt-ltb}
use Rattle.locks.specs.Lists.{padded}
use Rattle.locks.proofs.Lists.{all_end}
use Rattle.locks.proofs.Loops.{padded-more}
use Rattle.rules.specs.State.{no_process, new_process}
use Rattle.rules.specs.declared.state.Ids.{Ids}
use Rattle.rules.specs.declared.state.Process.{Process}
use Rattle.std.proofs.Math.Seq.{paste}
use Rattle.std.proofs.lemmas.List.Edits.{paste_more, paste_none}
use Rattle.model.specs.Fields.{Slim, Unnumbered, fields, seven_at}
use Rattle.locks.specs.Pieces.{changes, joined, stores}
use Rattle.places.specs.Places.{LIVE, NEXT, NUMBERS, PLACE, PLACES, Procs, USED, laid_procs, numbers, small_ids, whole}
use Rattle.locks.proofs.Padding.{padded-length}
use Rattle.places.proofs.Laying.{wide}
use Rattle.locks.proofs.Pieces.{joined_length, joined-set, set-append-add}

-- one more of a list comes into the next place
module _ {A : Type 0} (xs : List A) (i : ℕ) (d : A) {x : A} (l : i < length xs) (e : x ≡ get_or xs i d) where
  pub take_more : take (i + 1) xs ≡ take i xs ++ x ∷ []
  take_more = rw (add-one i, e) (take-suc xs i d l)

  pub padded-next : (n : ℕ) (z : A) → i < n → set (padded n z (take i xs)) i x ≡ padded n z (take (i + 1) xs)
  padded-next n z b = rw take_more (padded-more n i z (take i xs) x (length-take-le i xs (omega arith)) b)

-- ---- seven numbers copied into a place

module _ (m xs : List ℕ) (i at : ℕ) (n : length xs ≡ 7) (b : i * PLACE + at + 7 ≤ length m) where
  copied : ℕ → List ℕ
  copied = paste m (i * PLACE + at) xs

  one-more : (z : List ℕ) (j : ℕ) → j < 7 → z ≡ copied j → {k : ℕ} → k ≡ at + j → set z (i * PLACE + k) (get_or xs j 0) ≡ copied (j + 1)
  unfolding copied
  one-more z j l e {k} f =
      let g : i * PLACE + k ≡ i * PLACE + at + j = omega arith in
      rw (g, e) (paste_more m (i * PLACE + at) xs j 0 (omega arith) (omega arith))

  pub seven-copied : paste m (i * PLACE + at) xs 7 ≡ stores PLACE m i (seven_at at xs)
  unfolding copied
  seven-copied =
      sym (one-more _ 6 (omega arith)
      (one-more _ 5 (omega arith)
      (one-more _ 4 (omega arith)
      (one-more _ 3 (omega arith)
      (one-more _ 2 (omega arith)
      (one-more _ 1 (omega arith)
      (one-more m 0 (omega arith) (paste_none m (i * PLACE + at) xs) (omega arith)) refl) refl) refl) refl) refl) refl)

-- ---- processes

pub thin : {i : Ids} → Slim i → small_ids i ≡ true
thin s = rw (lt-ltb _ _ s.effective, lt-ltb _ _ s.login, lt-ltb _ _ s.program)

fields-are : (x p : Process) → changes (numbers x) (fields p) ≡ numbers p
unfolding numbers
fields-are x p = refl

abbrev zeros : List ℕ
zeros = 0 ∷ 0 ∷ 0 ∷ []

pub put-none : {m : List ℕ} → m ≡ replicate NUMBERS 0 → Unnumbered m []
unfolding laid_procs numbers no_process new_process padded
put-none e = record { is = e; whole = refl }

pub put-more : {m v : List ℕ} (ps : List Process) (i : ℕ) (d : Process) {p : Process} → Unnumbered m (take i ps) → i < length ps → i < PLACES → p ≡ get_or ps i d → whole p ≡ true → v ≡ stores PLACE m i (fields p)
    → Unnumbered v (take (i + 1) ps)
unfolding laid_procs
put-more {m} {v} ps i d {p} u l b e w f =
    let n : length (take i ps) ≡ i = length-take-le i ps (omega arith) in
    let few : length (take i ps) ≤ PLACES = omega arith in
    let room : i < length (padded PLACES no_process (take i ps)) = rw (padded-length PLACES no_process (take i ps) few) b in
    record {
      is =
          f ∙ ap (λ (x : List ℕ). stores PLACE x i (fields p)) u.is
          ∙ joined-set numbers PLACE wide (padded PLACES no_process (take i ps)) zeros i no_process room (fields p) p refl (fields-are (get_or (padded PLACES no_process (take i ps)) i no_process) p)
          ∙ ap (λ (x : List Process). joined numbers x ++ zeros) (padded-next ps i d l e PLACES no_process b);
      whole = rw (take_more ps i d l e) (all_end whole (take i ps) p u.whole w);
    }

counts-set : (ps : List Process) (cs : List ℕ) (k a : ℕ) → length ps ≤ PLACES → set (laid_procs ps ++ cs) (LIVE + k) a ≡ laid_procs ps ++ set cs k a
unfolding laid_procs
counts-set ps cs k a few =
    let n : length (joined numbers (padded PLACES no_process ps)) ≡ LIVE = joined_length numbers PLACE wide (padded PLACES no_process ps) ∙ rw (padded-length PLACES no_process ps few) in
    ap (λ (j : ℕ). set (joined numbers (padded PLACES no_process ps) ++ cs) (j + k) a) (sym n) ∙ set-append-add (joined numbers (padded PLACES no_process ps)) cs k a

-- and their counts
pub numbered : {m : List ℕ} (ps : List Process) {live used next : ℕ} → Unnumbered m ps → length ps ≤ PLACES → live ≡ length ps → Procs (set (set (set m LIVE live) USED used) NEXT next) ps used next
numbered {m} ps {live} {used} {next} u few e =
    record {
      is =
          ap (λ (x : List ℕ). set (set (set x LIVE live) USED used) NEXT next) u.is
          ∙ ap (λ (x : List ℕ). set (set x USED used) NEXT next) (counts-set ps zeros 0 live few)
          ∙ ap (λ (x : List ℕ). set x NEXT next) (counts-set ps (live ∷ 0 ∷ 0 ∷ []) 1 used few)
          ∙ counts-set ps (live ∷ used ∷ 0 ∷ []) 2 next few
          ∙ ap (λ (k : ℕ). laid_procs ps ++ k ∷ used ∷ next ∷ []) e;
      few = few;
      whole = u.whole;
    }
