-- The process of a PID by its place, and loops over the processes. Assumes nothing.
use Prim.Native.Nat.compare
use Prim.Native.Nat.{ℕ, zero, suc, ◌+◌, ◌≤◌, ◌<◌}
use native.Mathlib.Nat.{le_of_suc-le-suc, not-suc-le-zero}
use native.Mathlib.Omega.{arith}
use native.Mathlib.Numerals.{add-one}
use mathlib.Core.Path.{◌≡◌, refl, sym, ap, ◌∙◌}
use mathlib.Core.Bool.{false}
use mathlib.Core.List.{List, [], ◌∷◌, ◌++◌, map, append_assoc, map-append}
use lib.Dec.{eqb, ltb}
use lib.ListN.{length, get_or, take, drop, set, length-map}
use lib.Seq.{take-suc, drop-cons, length-take-le, set_at}
use borrow.Author.Tests.{eq-eqb, lt-ltb}
use Rattle.locks.specs.Lists.{member}
use Rattle.locks.proofs.Tests.{cases, or_off}
use Rattle.rules.specs.State.{no_process, has, pids, first_of, in_place}
use Rattle.rules.specs.declared.state.Process.{Process}
use Rattle.places.specs.Places.{place_of}

-- ---- the first of a number

pub place_found : (k : ℕ) (ns : List ℕ) (n i d : ℕ) → i < n → n ≤ length ns → member k (take i ns) ≡ false → get_or ns i d ≡ k → i ≡ place_of k (take n ns)
unfolding place_of
place_found k [] n i d l h a e = absurd (omega arith)
place_found k (x ∷ ns) zero i d l h a e = absurd (not-suc-le-zero l)
place_found k (x ∷ ns) (suc n) zero d l h a e = rw (eq-eqb x k e)
place_found k (x ∷ ns) (suc n) (suc i) d l h a e =
    let o = or_off (eqb x k) (member k (take i ns)) a in
    rw o.0 (ap suc (place_found k ns n i d (le_of_suc-le-suc l) (le_of_suc-le-suc h) o.1 e))

pub place_none : (k : ℕ) (ns : List ℕ) → member k ns ≡ false → place_of k ns ≡ length ns
unfolding place_of
place_none k [] a = refl
place_none k (x ∷ ns) a = let o = or_off (eqb x k) (member k ns) a in rw o.0 (ap suc (place_none k ns o.1))

-- what the place tells
pub place-member : (k : ℕ) (ns : List ℕ) → ltb (place_of k ns) (length ns) ≡ member k ns
unfolding place_of
place-member k [] = refl
place-member k (x ∷ ns) =
    cases (eqb x k) (λ e. rw e (lt-ltb 0 (suc (length ns)) (omega arith)))
    (λ e. rw (e, compare.suc-suc (suc (place_of k ns)) (length ns)) (place-member k ns))

-- ---- the processes of those PIDs

pub place-first : (k : ℕ) (ps : List Process) → get_or ps (place_of k (pids ps)) no_process ≡ first_of k ps
unfolding place_of first_of
place-first k [] = refl
place-first k (p ∷ ps) = cases (has k p) (λ e. rw e) (λ e. rw e (place-first k ps))

pub place-put : (q : Process) (ps : List Process) → set ps (place_of q.pid (pids ps)) q ≡ in_place q ps
unfolding place_of in_place
place-put q [] = refl
place-put q (p ∷ ps) = cases (has q.pid p) (λ e. rw e) (λ e. rw e (ap (λ (l : List Process). p ∷ l) (place-put q ps)))

pub put-length : (q : Process) (ps : List Process) → length (in_place q ps) ≡ length ps
unfolding in_place
put-length q [] = refl
put-length q (p ∷ ps) = cases (has q.pid p) (λ e. rw e) (λ e. rw e (ap suc (put-length q ps)))

-- ---- a loop that changes each process in its place

pub map_more : (f : Process → Process) (xs : List Process) (i : ℕ) (d : Process) → i < length xs
    → set (map f (take i xs) ++ drop i xs) i (f (get_or xs i d)) ≡ map f (take (i + 1) xs) ++ drop (i + 1) xs
map_more f xs i d l =
    let e : length (map f (take i xs)) ≡ i = length-map (take i xs) f ∙ length-take-le i xs (omega arith) in
    rw (add-one i, drop-cons xs i d l, set_at (map f (take i xs)) (get_or xs i d) (drop (suc i) xs) (f (get_or xs i d)) i e, take-suc xs i d l, map-append f (take i xs) (get_or xs i d ∷ []))
    (sym (append_assoc (map f (take i xs)) (f (get_or xs i d) ∷ []) (drop (suc i) xs)))

-- one that stays as it is
pub map_same : (f : Process → Process) (xs : List Process) (i : ℕ) (d : Process) → i < length xs → f (get_or xs i d) ≡ get_or xs i d
    → map f (take i xs) ++ drop i xs ≡ map f (take (i + 1) xs) ++ drop (i + 1) xs
map_same f xs i d l h =
    rw (add-one i, drop-cons xs i d l, take-suc xs i d l, map-append f (take i xs) (get_or xs i d ∷ []), h)
    (sym (append_assoc (map f (take i xs)) (get_or xs i d ∷ []) (drop (suc i) xs)))
