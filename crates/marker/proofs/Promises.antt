-- What is promised of keys and marks. Assumes nothing.
use Prim.Native.Nat.{ℕ, ◌+◌, ◌-◌, ◌*◌, ◌≤◌}
use native.Mathlib.Omega.{arith}
use mathlib.Core.Path.{◌≡◌, refl, ◌∙◌}
use mathlib.Core.Bool.{true, false≢true}
use mathlib.Core.List.{List, []}
use lib.ListN.{length, length-append}
use lib.Dec.{eqb, ltb}
use borrow.Author.Tests.{eqb-true, eq-eqb, ltb-false}
use Rattle.locks.specs.Lists.{is_zero}
use Rattle.locks.proofs.Tests.{cases, picked, and_split}
use Rattle.rules.specs.State.{laid, fresh}
use Rattle.papers.specs.Bytes.{number16, joined}
use Rattle.papers.specs.Layout.{field, event_count, answer_count}
use Rattle.papers.specs.Fields.{Read, tested, paper_of, sheet_field, sheet_of}
use Rattle.papers.specs.Events.{events_of}
use Rattle.papers.specs.Answers.{sheet_header, places_of}
use Rattle.papers.specs.declared.layout.Refusal.{Refusal}
use Rattle.papers.specs.declared.layout.Refusal.TheVariants.{Badpaper, Noroom}
use Rattle.std.specs.Prelude.{Ok, Err}
use Rattle.papers.proofs.Files.{PaperRead, SheetRead, broken, empty, some, paper-has, paper-read, paper-counts, sheet-read, sheet-counts}
use Rattle.papers.proofs.Sheets.{header-long, made-count, made-fits}
use Rattle.rules.specs.Play.{answers_from}
use Rattle.marker.specs.Key.{key_places, key_of, Keyed, keyed_for, keyed}
use Rattle.marker.specs.Mark.{right_places, marked_for, marked, is_perfect}
use Rattle.marker.specs.Promises.{AllRight, PerfectExact, BlankNothing, KeyLong, KeyPerfect, MarkListed, MarksListed, KeyListed, KeysListed, OneRefusal, counts, writes, badpaper, blank, badsheet, noroom}
use Rattle.marker.proofs.Places.{key-count, right-most, right-fits, right-self, right-all, answers-long, key-places}

-- ---- full marks

perfect-right : (p s : List ℕ) → is_perfect (marked p s) ≡ true → AllRight p s
unfolding marked key_places
perfect-right p s = go (paper-read p) (sheet-read s)
  where
    go : {x y : Read} → PaperRead p x → SheetRead s y → is_perfect (marked_for x y (right_places (key_places p) (places_of s))) ≡ true → AllRight p s
    go (broken offset m q n) y e = absurd (false≢true e)
    go (empty h z) y e = absurd (false≢true e)
    go (some f k) (broken offset m q n) e = absurd (false≢true e)
    go (some f k) (some g) e =
        let t = and_split (eqb (right_places (key_places p) (places_of s)) (event_count p)) (is_zero (answer_count s - event_count p)) e in
        let n = key-count p in
        record {
          paper = f.fits;
          sheet = g.fits;
          some = k;
          count = omega (arith, eqb-true, right-fits p s);
          bytes = right-all (answers_from (laid fresh) (events_of p)) s 6 (answer_count s) (omega (arith, eqb-true)) (omega (arith, eqb-true));
        }

right-perfect : (p s : List ℕ) → AllRight p s → is_perfect (marked p s) ≡ true
unfolding marked
right-perfect p s h =
    let n = event_count p in
    rw (paper-counts p h.paper h.some, sheet-counts s h.sheet, h.bytes, right-self (key_places p), key-count p, h.count, eq-eqb n n refl, eq-eqb (n - n) 0 (omega arith))

pub perfect-exact : PerfectExact
perfect-exact p s = (perfect-right p s, right-perfect p s)

pub key-long : KeyLong
unfolding key_of key_places
key-long p = length-append (sheet_header (event_count p)) (joined (key_places p)) ∙ omega (arith, header-long (event_count p), answers-long (answers_from (laid fresh) (events_of p)), key-count p)

pub key-perfect : KeyPerfect
unfolding key_of
key-perfect p h k =
    let r = joined (key_places p) in
    right-perfect p (key_of p) record {
      paper = h;
      sheet = made-fits (event_count p) r (paper-has p h).events (key-long p);
      some = k;
      count = made-count (event_count p) r;
      bytes = key-places p;
    }

-- ---- a blank sheet

pub blank-nothing : BlankNothing
unfolding number16 field tested sheet_field sheet_of marked
blank-nothing p h k =
    let r : right_places (key_places p) [] ≡ 0 = omega (arith, right-most (key_places p) []) in
    let n : event_count p - 0 ≡ event_count p = omega arith in
    let m : 0 - event_count p ≡ 0 = omega arith in
    rw (paper-counts p h k, r, n, m)

-- ---- the lists

pub marks-listed : MarksListed
unfolding marked
marks-listed p s = go (paper-read p) (sheet-read s)
  where
    go : {x y : Read} → PaperRead p x → SheetRead s y → MarkListed (marked_for x y (right_places (key_places p) (places_of s)))
    go (broken offset m q n) y = badpaper offset m
    go (empty h z) y = blank
    go (some f k) (broken offset m q n) = badsheet offset m
    go (some f k) (some g) =
        counts (event_count p) (right_places (key_places p) (places_of s)) (event_count p - answer_count s) (answer_count s - event_count p) k f.events
        (omega (arith, right-fits p s)) (omega arith)

pub keys-listed : KeysListed
unfolding keyed
keys-listed p buffer = go (paper-read p)
  where
    go : {x : Read} → PaperRead p x → KeyListed (length buffer) (keyed_for x (key_of p) buffer).0
    go (broken offset m q n) = badpaper offset m
    go (empty h z) = blank
    go (some f k) =
        picked (λ (r : Keyed × List ℕ). KeyListed (length buffer) r.0) (ltb (length buffer) (6 + 16 * event_count p)) (λ l. noroom)
        (λ l. writes (event_count p) k f.events (ltb-false _ _ l))

-- a key that is written lies within the buffer
pub key-within : (p buffer : List ℕ) (n : ℕ) → (keyed p buffer).0 ≡ Ok n → n ≤ length buffer
key-within p buffer n = go (keys-listed p buffer)
  where
    go : {k : Keyed} → KeyListed (length buffer) k → k ≡ Ok n → n ≤ length buffer
    go (writes m a b l) e = let z : n ≡ 6 + 16 * m = cc in omega arith
    go (badpaper offset m) e = let z : ◌≡◌ {A = ℕ} 0 1 = cc in absurd (omega arith)
    go blank e = let z : ◌≡◌ {A = ℕ} 0 1 = cc in absurd (omega arith)
    go noroom e = let z : ◌≡◌ {A = ℕ} 0 1 = cc in absurd (omega arith)

-- ---- one paper, one refusal

pub mark-refused : (p s : List ℕ) (r : Refusal) → paper_of p ≡ Err r → marked p s ≡ Err r
unfolding marked
mark-refused p s r e = rw e

pub key-refused : (p buffer : List ℕ) (r : Refusal) → paper_of p ≡ Err r → (keyed p buffer).0 ≡ Err r
unfolding keyed
key-refused p buffer r e = rw e

-- by its paper alone: neither a sheet nor a buffer brings this refusal
mark-paper : (p s : List ℕ) (offset : ℕ) → marked p s ≡ Err (Badpaper offset) → paper_of p ≡ Err (Badpaper offset)
unfolding marked
mark-paper p s offset = go (paper-read p) (sheet-read s)
  where
    go : {x y : Read} → PaperRead p x → SheetRead s y → marked_for x y (right_places (key_places p) (places_of s)) ≡ Err (Badpaper offset) → x ≡ Err (Badpaper offset)
    go (broken o m q n) y e = let d : o ≡ offset = cc in rw d
    go (empty h z) y e = let z : ◌≡◌ {A = ℕ} 0 1 = cc in absurd (omega arith)
    go (some f k) (broken o m q n) e = let z : ◌≡◌ {A = ℕ} 0 1 = cc in absurd (omega arith)
    go (some f k) (some g) e = let z : ◌≡◌ {A = ℕ} 0 1 = cc in absurd (omega arith)

key-paper : (p buffer : List ℕ) (offset : ℕ) → (keyed p buffer).0 ≡ Err (Badpaper offset) → paper_of p ≡ Err (Badpaper offset)
unfolding keyed
key-paper p buffer offset = go (paper-read p)
  where
    go : {x : Read} → PaperRead p x → (keyed_for x (key_of p) buffer).0 ≡ Err (Badpaper offset) → x ≡ Err (Badpaper offset)
    go (broken o m q n) e = let d : o ≡ offset = cc in rw d
    go (empty h z) e = let z : ◌≡◌ {A = ℕ} 0 1 = cc in absurd (omega arith)
    go (some f k) e =
        cases (ltb (length buffer) (6 + 16 * event_count p))
        (λ l. let d : Err Noroom ≡ Err (Badpaper offset) = rw l at e in let z : ◌≡◌ {A = ℕ} 0 1 = cc in absurd (omega arith))
        (λ l. let d : Ok (6 + 16 * event_count p) ≡ Err (Badpaper offset) = rw l at e in let z : ◌≡◌ {A = ℕ} 0 1 = cc in absurd (omega arith))

pub one-refusal : OneRefusal
one-refusal =
    record {
      same = λ p s buffer r e. (mark-refused p s r e, key-refused p buffer r e);
      offset = λ p s buffer o. (λ e. key-refused p buffer (Badpaper o) (mark-paper p s o e), λ e. mark-refused p s (Badpaper o) (key-paper p buffer o e));
    }
