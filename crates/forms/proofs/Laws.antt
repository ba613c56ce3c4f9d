-- The bytes of a paper, read and written. Assumes nothing.
use Prim.Native.Nat.{ℕ, zero, suc, ◌+◌, ◌*◌, ◌/◌, ◌%◌, ◌≤◌, ◌<◌}
use native.Mathlib.Nat.{add_assoc, add-zero, div-add-mod'}
use native.Mathlib.Numerals.{add-one}
use native.Mathlib.Omega.{arith}
use mathlib.Core.Path.{◌≡◌, refl, sym, ap, ◌∙◌}
use mathlib.Core.Bool.{Bool, true}
use mathlib.Core.List.{List, [], ◌∷◌, ◌++◌, map, append_assoc}
use lib.ListN.{length, get_or, take, drop, length-append, length-take, get_or-eq_default}
use lib.Dec.{leb, ltb}
use lib.Seq.{drop-cons, get_or-append-add, get_or-take}
use borrow.Author.Tests.{le-leb, ltb-true, ltb-false}
use Rattle.locks.specs.Lists.{all}
use Rattle.locks.proofs.Tests.{cases}
use Rattle.papers.specs.Bytes.{number16, number32, run, sixteens_from, joined, is_sixteen}
use Rattle.papers.specs.Layout.{field, sequence_count, names_fit}
use Rattle.papers.specs.Entries.{entry_at, entries_from}
use Rattle.papers.specs.declared.entries.Entry.{Entry}
use Rattle.papers.proofs.Runs.{joined-long}
use Rattle.forms.specs.Form.{entry_bytes, length_of, paper_header, paper_bytes}
use Rattle.forms.specs.Promises.{Bytes}

-- ---- how many, how long

pub entries-count : (p : List ℕ) (at n : ℕ) → length (entries_from p at n) ≡ n
entries-count p at zero = refl
entries-count p at (suc n) = ap suc (entries-count p (at + 20) n)

pub header-long : (e s : ℕ) → length (paper_header e s) ≡ 12
unfolding paper_header
header-long e s = refl

pub entry-long : (e : Entry) → length (entry_bytes e) ≡ 20
unfolding entry_bytes
entry-long e = refl

pub sixteens-sixteen : (p : List ℕ) (at n : ℕ) → all is_sixteen (sixteens_from p at n) ≡ true
sixteens-sixteen p at zero = refl
sixteens-sixteen p at (suc n) = sixteens-sixteen p (at + 16) n

pub entries-long : (es : List Entry) → length (joined (map entry_bytes es)) ≡ 20 * length es
entries-long [] = refl
entries-long (e ∷ es) = rw (length-append, entry-long e, entries-long es) (omega arith)

pub paper-long : (es : List Entry) (ss : List (List ℕ)) → all is_sixteen ss ≡ true → length (paper_bytes es ss) ≡ length_of (length es) (length ss)
unfolding paper_bytes
paper-long es ss h = simp (length-append, header-long, entries-long, joined-long ss h)

-- ---- runs

pub run-both : (p : List ℕ) (at m k : ℕ) → run p at (m + k) ≡ run p at m ++ run p (at + m) k
run-both p at zero k = let e : 0 + k ≡ k = omega arith in rw (e, add-zero at)
run-both p at (suc m) k =
    let e : suc m + k ≡ suc (m + k) = omega arith in
    let f : at + suc m ≡ at + 1 + m = omega arith in
    rw (e, f) (ap (λ r. get_or p at 0 ∷ r) (run-both p (at + 1) m k))

pub run_take : (p : List ℕ) (at n : ℕ) → at + n ≤ length p → run p at n ≡ take n (drop at p)
run_take p at zero h = refl
run_take p at (suc n) h = rw (drop-cons p at 0 (omega arith), ← add-one at) (ap (λ r. get_or p at 0 ∷ r) (run_take p (at + 1) n (omega arith)))

-- ---- the bytes of what was read are the bytes

module _ (p : List ℕ) (b : Bytes p) where
  pub high : (at : ℕ) → number16 p at / 256 ≡ get_or p at 0
  unfolding number16
  high at = omega (arith, b (at + 1))

  pub low : (at : ℕ) → number16 p at % 256 ≡ get_or p (at + 1) 0
  unfolding number16
  low at = omega (arith, b (at + 1))

  small : (at : ℕ) → number16 p at < 65536
  unfolding number16
  small at = omega (arith, b at, b (at + 1))

  high_half : (at : ℕ) → number32 p at / 65536 ≡ number16 p at
  unfolding number32
  high_half at = omega (arith, small (at + 2))

  low_half : (at : ℕ) → number32 p at % 65536 ≡ number16 p (at + 2)
  unfolding number32
  low_half at = omega (arith, small (at + 2))

  entry-run : (at : ℕ) → entry_bytes (entry_at p at) ≡ run p at 20
  unfolding entry_bytes entry_at
  entry-run at = simp (high_half, low_half, high, low, add_assoc)

  pub entries-run : (at n : ℕ) → joined (map entry_bytes (entries_from p at n)) ≡ run p at (20 * n)
  entries-run at zero = refl
  entries-run at (suc n) =
      let e : 20 * suc n ≡ 20 + 20 * n = omega arith in
      rw (e, entry-run at, entries-run (at + 20) n) (sym (run-both p at 20 (20 * n)))

pub sixteens-run : (p : List ℕ) (at n : ℕ) → joined (sixteens_from p at n) ≡ run p at (16 * n)
sixteens-run p at zero = refl
sixteens-run p at (suc n) =
    let e : 16 * suc n ≡ 16 + 16 * n = omega arith in
    rw (e, sixteens-run p (at + 16) n) (sym (run-both p at 16 (16 * n)))

-- ---- what was written is read

module _ (h f : List ℕ) where
  number16-behind : (k : ℕ) → number16 (h ++ f) (length h + k) ≡ number16 f k
  unfolding number16
  number16-behind k = rw (add_assoc (length h) k 1, get_or-append-add h f k 0, get_or-append-add h f (k + 1) 0)

  number32-behind : (k : ℕ) → number32 (h ++ f) (length h + k) ≡ number32 f k
  unfolding number32
  number32-behind k = rw (add_assoc (length h) k 2, number16-behind k, number16-behind (k + 2))

  entry-behind : entry_at (h ++ f) (length h) ≡ entry_at f 0
  unfolding entry_at
  entry-behind =
      let e : get_or (h ++ f) (length h) 0 ≡ get_or f 0 0 = rw (add-zero (length h)) at (get_or-append-add h f 0 0) in
      rw (e, get_or-append-add h f 1 0, number16-behind 2, number16-behind 4, number16-behind 6, number16-behind 8, number32-behind 10, number32-behind 14, number16-behind 18)

entry_first : (e : Entry) (r : List ℕ) → entry_at (entry_bytes e ++ r) 0 ≡ e
unfolding entry_at entry_bytes number32 number16
entry_first e r = simp div-add-mod'

pub entries-back : (h r : List ℕ) (es : List Entry) → entries_from (h ++ (joined (map entry_bytes es) ++ r)) (length h) (length es) ≡ es
entries-back h r [] = refl
entries-back h r (e ∷ es) =
    let k = rw (append_assoc, length-append, entry-long e) at (entries-back (h ++ entry_bytes e) r es) in
    ap (λ y. entries_from (h ++ y) (length h) (suc (length es))) (append_assoc (entry_bytes e) (joined (map entry_bytes es)) r)
    ∙ rw (entry-behind h (entry_bytes e ++ (joined (map entry_bytes es) ++ r)), entry_first e (joined (map entry_bytes es) ++ r), k)

-- ---- the names of a paper's events

-- the sequence that an entry names is one of n
abbrev pub names : ℕ → Entry → Bool
names n e = leb e.sequence n

name-one : (p : List ℕ) (at m : ℕ) → field p (at + 18) 0 m ≡ names m (entry_at p at)
unfolding field entry_at
name-one p at m = rw (le-leb 0 (number16 p (at + 18)) (omega arith))

pub names-all : (p : List ℕ) (at n : ℕ) → names_fit p at n ≡ all (names (sequence_count p)) (entries_from p at n)
names-all p at zero = refl
names-all p at (suc n) = rw (names-all p (at + 20) n, name-one p at (sequence_count p))

-- ---- the first n bytes

module _ (b : List ℕ) (n : ℕ) where
  number16-front : (at : ℕ) → at + 2 ≤ n → number16 (take n b) at ≡ number16 b at
  unfolding number16
  number16-front at h = rw (get_or-take n b at 0 (omega arith), get_or-take n b (at + 1) 0 (omega arith))

  number32-front : (at : ℕ) → at + 4 ≤ n → number32 (take n b) at ≡ number32 b at
  unfolding number32
  number32-front at h = rw (number16-front at (omega arith), number16-front (at + 2) (omega arith))

  entry-front : (at : ℕ) → at + 20 ≤ n → entry_at (take n b) at ≡ entry_at b at
  unfolding entry_at
  entry-front at h =
      rw (
        get_or-take n b at 0 (omega arith),
        get_or-take n b (at + 1) 0 (omega arith),
        number16-front (at + 2) (omega arith),
        number16-front (at + 4) (omega arith),
        number16-front (at + 6) (omega arith),
        number16-front (at + 8) (omega arith),
        number32-front (at + 10) (omega arith),
        number32-front (at + 14) (omega arith),
        number16-front (at + 18) (omega arith),
      )

  pub entries-front : (at m : ℕ) → at + 20 * m ≤ n → entries_from (take n b) at m ≡ entries_from b at m
  entries-front at zero h = refl
  entries-front at (suc m) h = rw (entry-front at (omega arith), entries-front (at + 20) m (omega arith))

  run-front : (at k : ℕ) → at + k ≤ n → run (take n b) at k ≡ run b at k
  run-front at zero h = refl
  run-front at (suc k) h = rw (get_or-take n b at 0 (omega arith), run-front (at + 1) k (omega arith))

  pub sixteens-front : (at m : ℕ) → at + 16 * m ≤ n → sixteens_from (take n b) at m ≡ sixteens_from b at m
  sixteens-front at zero h = refl
  sixteens-front at (suc m) h = let e : run (take n b) at 16 ≡ run b at 16 = run-front at 16 (omega arith) in rw (e, sixteens-front (at + 16) m (omega arith))

  pub bytes-front : Bytes b → Bytes (take n b)
  bytes-front h i =
      cases (ltb i n)
      (λ l. rw (get_or-take n b i 0 (ltb-true i n l)) (h i))
      (λ l. let g = ltb-false i n l in
      let e : get_or (take n b) i 0 ≡ 0 = get_or-eq_default (take n b) 0 {n = i} (omega (arith, length-take n b)) in
      rw e (omega arith))
