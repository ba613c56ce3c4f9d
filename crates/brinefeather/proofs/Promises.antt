-- What is promised of the desk's numbers. Assumes nothing.
use Prim.Native.Nat.{ℕ, ◌+◌, ◌*◌, ◌/◌, ◌%◌, ◌≤◌, ◌<◌}
use native.Mathlib.Omega.{arith}
use mathlib.Core.Path.{◌≡◌, refl, sym, ap, ◌∙◌}
use mathlib.Core.Bool.{true}
use lib.Dec.{eqb, leb}
use borrow.Author.Tests.{eqb-true, eqb-false, leb-true, le-leb, lt-leb}
use Rattle.locks.proofs.Tests.{cases, off, and_split}
use Rattle.forms.specs.declared.items.Writer.{Writer}
use Rattle.std.specs.Prelude.{cond, Ok, Err}
use Rattle.forms.specs.declared.items.Refusal.TheVariants as writer
use Rattle.forms.specs.Adding.{length_for, Added}
use Rattle.forms.specs.Promises.{Listed, taken, badpaper, order, full, noroom}
use Rattle.forms.proofs.Promises.{all_listed}
use Rattle.std.specs.Prelude.{Ok}
use Rattle.marker.specs.Promises.{MarkListed, KeyListed, counts, writes, badpaper, blank, badsheet, noroom}
use Rattle.marker.specs.Key.{Keyed}
use Rattle.marker.specs.Mark.{Marked, worth}
use Rattle.marker.proofs.Promises.{marks-listed, keys-listed, mark-refused, key-refused}
use Rattle.brinefeather.specs.Desk.{mark_number, key_number, writer_number, writer_of, added_number, is_length, refused_of, mark_refusal, key_refusal, added_refusal}
use Rattle.brinefeather.specs.Promises.{OneNumber, NumbersDiffer, WritersReadBack, RefusalsTold}

-- 16 bits each
parts : (a b x y : ℕ) → x ≤ 1000 → y ≤ 1000 → a * 65536 + x ≡ b * 65536 + y → (a ≡ b) × (x ≡ y)
parts a b x y h k e = omega arith

marks-differ : {a b : Marked} → MarkListed a → MarkListed b → mark_number a ≡ mark_number b → a ≡ b
marks-differ (counts t r m u h i j k) (counts t' r' m' u' h' i' j' k') e =
    let d = parts ((t * 65536 + r) * 65536 + m) ((t' * 65536 + r') * 65536 + m') u u' k k' e in
    let c = parts (t * 65536 + r) (t' * 65536 + r') m m' (omega arith) (omega arith) d.0 in
    let b = parts t t' r r' (omega arith) (omega arith) c.0 in
    rw (b.0, b.1, c.1, d.1)
marks-differ (counts t _ m u h i j k) (badpaper o l) e = absurd (omega arith)
marks-differ (counts t _ m u h i j k) blank e = absurd (omega arith)
marks-differ (counts t _ m u h i j k) (badsheet o l) e = absurd (omega arith)
marks-differ (badpaper o l) (counts t _ m u h i j k) e = absurd (omega arith)
marks-differ (badpaper o l) (badpaper o' l') e = let d : o ≡ o' = omega arith in rw d
marks-differ (badpaper o l) blank e = absurd (omega arith)
marks-differ (badpaper o l) (badsheet o' l') e = absurd (omega arith)
marks-differ blank (counts t _ m u h i j k) e = absurd (omega arith)
marks-differ blank (badpaper o l) e = absurd (omega arith)
marks-differ blank blank e = refl
marks-differ blank (badsheet o l) e = absurd (omega arith)
marks-differ (badsheet o l) (counts t _ m u h i j k) e = absurd (omega arith)
marks-differ (badsheet o l) (badpaper o' l') e = absurd (omega arith)
marks-differ (badsheet o l) blank e = absurd (omega arith)
marks-differ (badsheet o l) (badsheet o' l') e = let d : o ≡ o' = omega arith in rw d

keys-differ : {room other : ℕ} {a b : Keyed} → KeyListed room a → KeyListed other b → key_number a ≡ key_number b → a ≡ b
keys-differ (writes n h i j) (writes m h' i' j') e = ap Ok e
keys-differ (writes n h i j) (badpaper o l) e = absurd (omega arith)
keys-differ (writes n h i j) blank e = absurd (omega arith)
keys-differ (writes n h i j) noroom e = absurd (omega arith)
keys-differ (badpaper o l) (writes n h i j) e = absurd (omega arith)
keys-differ (badpaper o l) (badpaper o' l') e = let d : o ≡ o' = omega arith in rw d
keys-differ (badpaper o l) blank e = absurd (omega arith)
keys-differ (badpaper o l) noroom e = absurd (omega arith)
keys-differ blank (writes n h i j) e = absurd (omega arith)
keys-differ blank (badpaper o l) e = absurd (omega arith)
keys-differ blank blank e = refl
keys-differ blank noroom e = absurd (omega arith)
keys-differ noroom (writes n h i j) e = absurd (omega arith)
keys-differ noroom (badpaper o l) e = absurd (omega arith)
keys-differ noroom blank e = absurd (omega arith)
keys-differ noroom noroom e = refl

-- ---- a writer

upper : (a s : ℕ) → s < 65536 → (a * 65536 + s) / 65536 ≡ a
upper a s h = omega arith

lower : (a s : ℕ) → s < 65536 → (a * 65536 + s) % 65536 ≡ s
lower a s h = omega arith

writer-parts : (w : Writer) → w.events ≤ 1000 → w.sequences ≤ 64 → writer_of (writer_number w) ≡ w
writer-parts w h k =
    let a = length_for w * 65536 + w.events in
    let s = lower a w.sequences (omega arith) in
    let e = lower (length_for w) w.events (omega arith) in
    rw (upper a w.sequences (omega arith), s, e)

-- the answer that has this number
abbrev answer_of : ℕ → Added
answer_of n = cond (leb 4294967296 n) (Ok (writer_of n)) (Err (cond (eqb n 15) writer.Badpaper (cond (eqb n 26) writer.Order (cond (eqb n 20) writer.Full writer.Noroom))))

answer-back : {a : Added} → Listed a → answer_of (added_number a) ≡ a
answer-back (taken w h k l) = rw (le-leb 4294967296 (writer_number w) (omega arith), writer-parts w h k)
answer-back badpaper = refl
answer-back order = refl
answer-back full = refl
answer-back noroom = refl

writers-differ : {a b : Added} → Listed a → Listed b → added_number a ≡ added_number b → a ≡ b
writers-differ l k e = sym (answer-back l) ∙ ap answer_of e ∙ answer-back k

pub writers-read-back : WritersReadBack
writers-read-back w w' b i = go (all_listed w b i)
  where
    go : {a : Added} → Listed a → a ≡ Ok w' → writer_of (writer_number w') ≡ w'
    go (taken v h k l) e = let f : v ≡ w' = cc in rw f at (writer-parts v h k)
    go badpaper e = cc
    go order e = cc
    go full e = cc
    go noroom e = cc

-- ---- a refusal is told by its size

large : (n : ℕ) → 4294967296 ≤ n → refused_of n ≡ 0
large n h = rw (le-leb 4294967296 n h)

-- a key's length
middle : (n : ℕ) → is_length n ≡ true → n < 4294967296 → refused_of n ≡ 0
middle n h k = rw (lt-leb 4294967296 n k, h)

-- a refusal's number and its offset
small : (n r offset : ℕ) → n ≡ r + 65536 * offset → r < 28 → (r ≡ 22 → ⊥) → offset ≤ 20010 → refused_of n ≡ r
small n r offset e h d l =
    let m : n % 65536 ≡ r = omega arith in
    rw (lt-leb 4294967296 n (omega arith), off (is_length n) no, m)
  where
    no : is_length n ≡ true → ⊥
    no t =
        cases (eqb n 22)
        (λ q. d (omega (arith, eqb-true n 22 q)))
        (λ q. let b = and_split (leb 28 n) (leb n 65535) (rw q at t) in omega (arith, leb-true 28 n b.0, leb-true n 65535 b.1))

mark-told : {m : Marked} → MarkListed m → refused_of (mark_number m) ≡ mark_refusal m
mark-told (counts t r m u h i j k) = large (mark_number (worth t r m u)) (omega arith)
mark-told (badpaper o l) = small (15 + 65536 * o) 15 o refl (omega arith) (λ e. absurd (omega arith)) l
mark-told blank = refl
mark-told (badsheet o l) = small (17 + 65536 * o) 17 o refl (omega arith) (λ e. absurd (omega arith)) (omega arith)

length-told : (n : ℕ) → 1 ≤ n → n ≤ 1000 → is_length (6 + 16 * n) ≡ true
length-told n h k =
    cases (eqb (6 + 16 * n) 22)
    (λ q. rw q)
    (λ q. let d = eqb-false (6 + 16 * n) 22 q in
    let l : 28 ≤ 6 + 16 * n = omega arith in
    rw (q, le-leb 28 (6 + 16 * n) l, le-leb (6 + 16 * n) 65535 (omega arith)))

key-told : {room : ℕ} {k : Keyed} → KeyListed room k → refused_of (key_number k) ≡ key_refusal k
key-told (writes n h i j) = middle (6 + 16 * n) (length-told n h i) (omega arith)
key-told (badpaper o l) = small (15 + 65536 * o) 15 o refl (omega arith) (λ e. absurd (omega arith)) l
key-told blank = refl
key-told noroom = refl

writer-told : {a : Added} → Listed a → refused_of (added_number a) ≡ added_refusal a
writer-told (taken w h k l) = large (writer_number w) (omega arith)
writer-told badpaper = refl
writer-told order = refl
writer-told full = refl
writer-told noroom = refl

pub refusals-told : RefusalsTold
refusals-told = record { marks = λ p s. mark-told (marks-listed p s); keys = λ p b. key-told (keys-listed p b); writers = λ w b i. writer-told (all_listed w b i) }

pub numbers-differ : NumbersDiffer
numbers-differ = record { marks = λ p s q t. marks-differ (marks-listed p s) (marks-listed q t); keys = λ p b q o. keys-differ (keys-listed p b) (keys-listed q o); writers = λ w v b c i j. writers-differ (all_listed w b i) (all_listed v c j) }

pub one_number : OneNumber
one_number p s buffer r e = ap mark_number (mark-refused p s r e) ∙ sym (ap key_number (key-refused p buffer r e))
