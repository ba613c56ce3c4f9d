-- What is proved of a writer. Assumes nothing.
use Prim.Native.Nat.{ℕ, ◌+◌, ◌-◌, ◌*◌, ◌≤◌, ◌<◌}
use native.Mathlib.Omega.{arith}
use mathlib.Core.Path.{◌≡◌, refl, sym, ap, ◌∙◌}
use mathlib.Core.Bool.{Bool, true, false, not, ◌&&◌}
use mathlib.Core.List.{List, [], ◌∷◌, ◌++◌, map, append-nil}
use lib.ListN.{length, take, drop, length-append, length-drop, take-append-drop}
use lib.Dec.{ltb}
use lib.Seq.{take_at, drop-drop, append_snoc, drop-append-add}
use borrow.Author.Tests.{not-false, eqb-true, leb-true, leb-false, ltb-true, ltb-false, le-leb, lt-leb, lt-ltb, le-ltb, eq-eqb, ne_eqb}
use Rattle.std.specs.Prelude.{Ok, Err, ◌↔◌}
use Rattle.locks.specs.Lists.{all, is_zero}
use Rattle.locks.proofs.Tests.{picked, and_split}
use Rattle.locks.proofs.Lists.{all_end, all-parts}
use Rattle.papers.specs.Bytes.{is_sixteen}
use Rattle.papers.specs.Layout.{event_count, sequence_count, sequences_at}
use Rattle.papers.specs.Fields.{paper_of}
use Rattle.papers.specs.Entries.{entries_from, entries_of, sequences_of}
use Rattle.papers.specs.declared.entries.Entry.{Entry}
use Rattle.papers.specs.Fields.{Read}
use Rattle.papers.proofs.Runs.{sixteens-count}
use Rattle.papers.proofs.Files.{Paper, PaperRead, broken, empty, some, paper-has, paper-read}
use Rattle.forms.specs.declared.items.Writer.{Writer}
use Rattle.forms.specs.declared.items.Refusal.{Refusal}
use Rattle.forms.specs.declared.items.Refusal.TheVariants.{Badpaper, Order, Full, Noroom}
use Rattle.forms.specs.Form.{paper_bytes}
use Rattle.forms.specs.Adding.{Item, sequence, event, counts, length_for, entries_in, sequences_in, has_counts, begins, is_broken, is_misplaced, is_full, entries_with, sequences_with, in_front, laid_out, Added, added, added_all}
use Rattle.forms.specs.Promises.{Holds, Bytes, BeginsWith, item_long, grown, Left, EachLeaves, RefusedLeaves, Listed, taken, badpaper, order, full, noroom, AllListed, InOrder, OnAPaper, OnPapers, WriterRefusalNumbers, WritesAll, WrittenAgain}
use Rattle.forms.proofs.Laws.{entries-count, sixteens-sixteen, paper-long, names, entries-front, sixteens-front, bytes-front}
use Rattle.forms.proofs.Forms.{at-2, at-6, entries-read, sequences-read, made-fits, reads-back, one_form, names-have}
use Rattle.forms.proofs.Calls.{Whole, whole, unbroken, few, few-events}

-- ---- a buffer in which a paper stands

-- how many they are
abbrev pub many : List Entry → List (List ℕ) → Writer
many es ss = counts (length es) (length ss)

-- their paper, and behind it what was there
abbrev front : List Entry → List (List ℕ) → List ℕ → List ℕ
front es ss b = in_front (paper_bytes es ss) b

-- what a writer with these events and sequences finds in its buffer c, which was b at first
record Stands (es : List Entry) (ss : List (List ℕ)) (b c : List ℕ) : Type 0 where
  whole : is_broken (many es ss) c ≡ false
  entries : entries_in (many es ss) c ≡ es
  sequences : sequences_in (many es ss) c ≡ ss
  long : length c ≡ length b
  rest : (n : ℕ) → length (paper_bytes es ss) ≤ n → drop n c ≡ drop n b
  shown : 1 ≤ length es + length ss → c ≡ front es ss b

first : (b : List ℕ) → Stands [] [] b b
unfolding is_broken
first b = record { whole = refl; entries = refl; sequences = refl; long = refl; rest = λ n h. refl; shown = λ h. absurd (omega arith) }

none_left : (t : Bool) → (t && not true) ≡ false
none_left true = refl
none_left false = refl

module _ (es : List Entry) (ss : List (List ℕ)) (h : Holds es ss) where
  abbrev p : List ℕ
  p = paper_bytes es ss

  p-long : length p ≡ length_for (many es ss)
  p-long = paper-long es ss h.long

  p-front : (r : List ℕ) → take (length_for (many es ss)) (p ++ r) ≡ p
  p-front r = take_at p r (length_for (many es ss)) p-long

  p-begins : (r : List ℕ) → begins (many es ss) (p ++ r) ≡ true
  unfolding begins has_counts
  p-begins r = rw (p-front r, made-fits es ss h, at-2 es ss, at-6 es ss, eq-eqb (length es) (length es) refl, eq-eqb (length ss) (length ss) refl)

  p-whole : (r : List ℕ) → is_broken (many es ss) (p ++ r) ≡ false
  unfolding is_broken
  p-whole r = rw (p-begins r) (none_left (not (is_zero (length es) && is_zero (length ss))))

  front_rest : (b : List ℕ) (n : ℕ) → length p ≤ n → drop n (front es ss b) ≡ drop n b
  front_rest b n l =
      let e : n ≡ length p + (n - length p) = omega arith in
      rw e (drop-append-add p (drop (length p) b) (n - length p) ∙ drop-drop (n - length p) (length p) b)

  stands : (b : List ℕ) → length p ≤ length b → Stands es ss b (front es ss b)
  stands b room =
      record {
        whole = p-whole (drop (length p) b);
        entries = entries-read es ss (drop (length p) b);
        sequences = sequences-read es ss (drop (length p) b) h.long;
        long = rw (length-append, length-drop) (omega arith);
        rest = front_rest b;
        shown = λ l. refl;
      }

-- ---- one call

module _ (es : List Entry) (ss : List (List ℕ)) (b c : List ℕ) (st : Stands es ss b c) (i : Item) where
  step : is_misplaced (many es ss) i ≡ false → is_full (many es ss) i ≡ false → length (paper_bytes es ss) ≤ length (paper_bytes (entries_with es i) (sequences_with ss i))
      → length (paper_bytes (entries_with es i) (sequences_with ss i)) ≤ length b
      → added (many es ss) c i ≡ (Ok (many (entries_with es i) (sequences_with ss i)), front (entries_with es i) (sequences_with ss i) b)
  unfolding added laid_out
  step m f more room =
      let n = length (paper_bytes (entries_with es i) (sequences_with ss i)) in
      rw (st.whole, m, f, st.entries, st.sequences, st.long, le-ltb (length b) n room, st.rest n more)

-- the names in a buffer that begins with a paper
before : (w : Writer) (b : List ℕ) → is_broken w b ≡ false → all (names w.sequences) (entries_in w b) ≡ true
before w b t =
    unbroken w b t
    (λ e s. rw e)
    (λ h. let p = take (length_for w) b in
    let k : entries_from p 12 w.events ≡ entries_in w b = entries-front b (length_for w) 12 w.events (omega arith) in
    rw (h.sequences, h.events, k) at (names-have p h.fits))

pub begins-with : BeginsWith
begins-with = record { made = λ es ss r h. p-begins es ss h r; only = λ w b k t. only w b k (whole w b t) }
  where
    only : (w : Writer) (b : List ℕ) → Bytes b → Whole w b → Holds (entries_in w b) (sequences_in w b) × (b ≡ paper_bytes (entries_in w b) (sequences_in w b) ++ drop (length_for w) b)
    only w b k h =
        let n = length_for w in
        let p = take n b in
        let f = paper-has p h.fits in
        let es : entries_of p ≡ entries_in w b = rw h.events (entries-front b n 12 w.events (omega arith)) in
        let ss : sequences_of p ≡ sequences_in w b = rw (h.events, h.sequences) (sixteens-front b n (12 + 20 * w.events) w.sequences (omega arith)) in
        let o : paper_bytes (entries_in w b) (sequences_in w b) ≡ p = rw (es, ss) at (one_form p (bytes-front b n k) h.fits) in
        let held : Holds (entries_in w b) (sequences_in w b) =
        record {
          events = rw (entries-count b 12 w.events) (omega (arith, f.events, h.events));
          sequences = rw (sixteens-count b (12 + 20 * w.events) w.sequences) (omega (arith, f.sequences, h.sequences));
          long = sixteens-sixteen b (12 + 20 * w.events) w.sequences;
          named = rw (sixteens-count b (12 + 20 * w.events) w.sequences) (rw (es, h.sequences) at (names-have p h.fits));
        } in
        (held, rw o (sym (take-append-drop n b)))

-- how many there are then
within : (w : Writer) (b : List ℕ) (i : Item) → is_broken w b ≡ false → is_full w i ≡ false
    → (length (entries_with (entries_in w b) i) ≤ 1000) × (length (sequences_with (sequences_in w b) i) ≤ 64)
    × (1 ≤ length (entries_with (entries_in w b) i) + length (sequences_with (sequences_in w b) i))
within w b (sequence s) t f =
    let n = leb-false 64 w.sequences f in
    let e = few-events w b t in
    rw (length-append, entries-count b 12 w.events, sixteens-count b (12 + 20 * w.events) w.sequences) (omega arith, omega arith, omega arith)
within w b (event e) t f =
    let n = leb-false 1000 w.events f in
    let s = few w b t in
    rw (length-append, entries-count b 12 w.events, sixteens-count b (12 + 20 * w.events) w.sequences) (omega arith, omega arith, omega arith)

sixteen-all : (w : Writer) (b : List ℕ) (i : Item) → item_long i ≡ true → all is_sixteen (sequences_with (sequences_in w b) i) ≡ true
sixteen-all w b (sequence s) l = all_end is_sixteen (sequences_in w b) s (sixteens-sixteen b (12 + 20 * w.events) w.sequences) l
sixteen-all w b (event e) l = sixteens-sixteen b (12 + 20 * w.events) w.sequences

named-all : (w : Writer) (b : List ℕ) (i : Item) → is_broken w b ≡ false → is_misplaced w i ≡ false
    → all (names (length (sequences_with (sequences_in w b) i))) (entries_with (entries_in w b) i) ≡ true
named-all w b (sequence s) t m = let z = eqb-true w.events 0 (not-false (is_zero w.events) m) in rw z
named-all w b (event e) t m =
    rw (sixteens-count b (12 + 20 * w.events) w.sequences)
    (all_end (names w.sequences) (entries_in w b) e (before w b t) (le-leb e.sequence w.sequences (ltb-false w.sequences e.sequence m)))

pub grew : (w : Writer) (b : List ℕ) (i : Item) → many (entries_with (entries_in w b) i) (sequences_with (sequences_in w b) i) ≡ grown w i
grew w b (sequence s) = rw (length-append, entries-count b 12 w.events, sixteens-count b (12 + 20 * w.events) w.sequences)
grew w b (event e) = rw (length-append, entries-count b 12 w.events, sixteens-count b (12 + 20 * w.events) w.sequences)

module _ (w : Writer) (b : List ℕ) (i : Item) where
  abbrev pub es' : List Entry
  es' = entries_with (entries_in w b) i

  abbrev pub ss' : List (List ℕ)
  ss' = sequences_with (sequences_in w b) i

  -- each answer with what brought it
  data Brought : Added × List ℕ → Type 0 where
    bad : is_broken w b ≡ true → Brought (Err Badpaper, b)
    late : is_broken w b ≡ false → is_misplaced w i ≡ true → Brought (Err Order, b)
    many_more : is_broken w b ≡ false → is_misplaced w i ≡ false → is_full w i ≡ true → Brought (Err Full, b)
    short : is_broken w b ≡ false → is_misplaced w i ≡ false → is_full w i ≡ false → length b < length (paper_bytes es' ss') → Brought (Err Noroom, b)
    laid : is_broken w b ≡ false → is_misplaced w i ≡ false → is_full w i ≡ false → length (paper_bytes es' ss') ≤ length b → Brought (Ok (many es' ss'), front es' ss' b)

  laid-brought : is_broken w b ≡ false → is_misplaced w i ≡ false → is_full w i ≡ false → Brought (laid_out es' ss' b)
  unfolding laid_out
  laid-brought t m f =
      picked Brought (ltb (length b) (length (paper_bytes es' ss')))
      (λ r. short t m f (ltb-true (length b) (length (paper_bytes es' ss')) r))
      (λ r. laid t m f (ltb-false (length b) (length (paper_bytes es' ss')) r))

  brought : Brought (added w b i)
  unfolding added
  brought =
      picked Brought (is_broken w b) bad
      (λ t. picked Brought (is_misplaced w i) (late t) (λ m. picked Brought (is_full w i) (many_more t m) (laid-brought t m)))

  held : item_long i ≡ true → is_broken w b ≡ false → is_misplaced w i ≡ false → is_full w i ≡ false → Holds es' ss'
  held l t m f =
      let k = within w b i t f in
      record { events = k.0; sequences = k.1; long = sixteen-all w b i l; named = named-all w b i t m }

  pub grown-long : item_long i ≡ true → length (paper_bytes es' ss') ≡ length_for (grown w i)
  grown-long l = paper-long es' ss' (sixteen-all w b i l) ∙ ap length_for (grew w b i)

  left : Holds es' ss' → length (paper_bytes es' ss') ≤ length b → Left w b i (many es' ss') (front es' ss' b)
  left h room =
      let st = stands es' ss' h b room in
      let e = p-front es' ss' h (drop (length (paper_bytes es' ss')) b) in
      let l = p-long es' ss' h in
      record {
        writer = grew w b i;
        events = rw e (at-2 es' ss');
        sequences = rw e (at-6 es' ss');
        paper = rw e (reads-back es' ss' h);
        rest = front_rest es' ss' h b (length_for (many es' ss')) (omega arith);
        long = st.long;
        entries-then = st.entries;
        sequences-then = st.sequences;
      }

pub each-leaves : EachLeaves
each-leaves w w' b b' i l = go (brought w b i)
  where
    no : (r : Refusal) {c : List ℕ} → ◌≡◌ {A = Added × List ℕ} (Err r, c) (Ok w', b') → Left w b i w' b'
    no r e = let a : Err r ≡ Ok w' = ap (λ x. x.0) e in cc

    go : {x : Added × List ℕ} → Brought w b i x → x ≡ (Ok w', b') → Left w b i w' b'
    go (bad t) e = no Badpaper e
    go (late t m) e = no Order e
    go (many_more t m f) e = no Full e
    go (short t m f r) e = no Noroom e
    go (laid t m f room) e =
        let a : Ok (many (es' w b i) (ss' w b i)) ≡ Ok w' = ap (λ x. x.0) e in
        let g : many (es' w b i) (ss' w b i) ≡ w' = cc in
        let h : front (es' w b i) (ss' w b i) b ≡ b' = ap (λ x. x.1) e in
        rw (← g, ← h) (left w b i (held w b i l t m f) room)

pub refused-leaves : RefusedLeaves
refused-leaves w b b' i r = go (brought w b i)
  where
    go : {x : Added × List ℕ} → Brought w b i x → x ≡ (Err r, b') → b' ≡ b
    go (bad t) e = sym (ap (λ x. x.1) e)
    go (late t m) e = sym (ap (λ x. x.1) e)
    go (many_more t m f) e = sym (ap (λ x. x.1) e)
    go (short t m f k) e = sym (ap (λ x. x.1) e)
    go (laid t m f k) e =
        let a : Ok (many (es' w b i) (ss' w b i)) ≡ Err r = ap (λ x. x.0) e in cc

pub all_listed : AllListed
all_listed w b i = go (brought w b i)
  where
    go : {x : Added × List ℕ} → Brought w b i x → Listed x.0
    go (bad t) = badpaper
    go (late t m) = order
    go (many_more t m f) = full
    go (short t m f r) = noroom
    go (laid t m f r) = let k = within w b i t f in taken (many (es' w b i) (ss' w b i)) k.0 k.1 k.2

-- ---- the refusals in their order

module _ (w : Writer) (b : List ℕ) (i : Item) where
  -- what brings each refusal
  abbrev Reason : Refusal → Type 0
  Reason Badpaper = is_broken w b ≡ true
  Reason Order = (is_broken w b ≡ false) × (is_misplaced w i ≡ true)
  Reason Full = (is_broken w b ≡ false) × (is_misplaced w i ≡ false) × (is_full w i ≡ true)
  Reason Noroom = (is_broken w b ≡ false) × (is_misplaced w i ≡ false) × (is_full w i ≡ false) × (length b < length (paper_bytes (es' w b i) (ss' w b i)))

  reason : {x : Added × List ℕ} → Brought w b i x → (r : Refusal) → x.0 ≡ Err r → Reason r
  reason (bad t) r e = let f : Badpaper ≡ r = cc in rw (← f) t
  reason (late t m) r e = let f : Order ≡ r = cc in rw (← f) (t, m)
  reason (many_more t m f) r e = let g : Full ≡ r = cc in rw (← g) (t, m, f)
  reason (short t m f l) r e = let g : Noroom ≡ r = cc in rw (← g) (t, m, f, l)
  reason (laid t m f l) r e = cc

  answers : (r : Refusal) → Reason r → (added w b i).0 ≡ Err r
  unfolding added laid_out
  answers Badpaper t = rw t
  answers Order h = rw (h.0, h.1)
  answers Full h = rw (h.0, h.1, h.2)
  answers Noroom h = rw (h.0, h.1, h.2, lt-ltb (length b) (length (paper_bytes (es' w b i) (ss' w b i))) h.3)

  exactly : (r : Refusal) → ((added w b i).0 ≡ Err r) ↔ Reason r
  exactly r = (reason (brought w b i) r, answers r)

pub in_order : InOrder
in_order =
    record {
      badpaper = λ w b i. exactly w b i Badpaper;
      order = λ w b i. exactly w b i Order;
      full = λ w b i. exactly w b i Full;
      noroom = λ w b i l. (
        λ e. let k = (exactly w b i Noroom).0 e in (k.0, k.1, k.2, rw (grown-long w b i l) at k.3),
        λ h. (exactly w b i Noroom).1 (h.0, h.1, h.2, rw (grown-long w b i l) h.3),
      );
    }

-- ---- a call where a paper stands

module _ (es : List Entry) (ss : List (List ℕ)) (r : List ℕ) (h : Holds es ss) where
  abbrev w₀ : Writer
  w₀ = many es ss

  abbrev b₀ : List ℕ
  b₀ = paper_bytes es ss ++ r

  b-long : length b₀ ≡ length_for w₀ + length r
  b-long = rw (length-append, p-long es ss h)

  -- none of the first three refusals: the paper with the item, if there is room
  on-paper : (i : Item) → is_misplaced w₀ i ≡ false → is_full w₀ i ≡ false → added w₀ b₀ i ≡ laid_out (entries_with es i) (sequences_with ss i) b₀
  unfolding added
  on-paper i m f = rw (p-whole es ss h r, m, f, entries-read es ss r, sequences-read es ss r h.long)

  module _ (i : Item) (m : is_misplaced w₀ i ≡ false) (f : is_full w₀ i ≡ false) (k : ℕ)
      (l : length (paper_bytes (entries_with es i) (sequences_with ss i)) ≡ length_for w₀ + k) where
    on-short : length r < k → added w₀ b₀ i ≡ (Err Noroom, b₀)
    unfolding laid_out
    on-short s = on-paper i m f ∙ rw (l, b-long, lt-ltb (length_for w₀ + length r) (length_for w₀ + k) (omega arith))

    on-more : k ≤ length r → added w₀ b₀ i ≡ (Ok (many (entries_with es i) (sequences_with ss i)), paper_bytes (entries_with es i) (sequences_with ss i) ++ drop k r)
    unfolding laid_out
    on-more s =
        let d : drop (length_for w₀ + k) b₀ ≡ drop k r = rw (p-long es ss h) at (drop-append-add (paper_bytes es ss) r k) in
        on-paper i m f ∙ rw (l, b-long, le-ltb (length_for w₀ + length r) (length_for w₀ + k) (omega arith), d)

  event-grows : (e : Entry) → length (paper_bytes (es ++ e ∷ []) ss) ≡ length_for w₀ + 20
  event-grows e = paper-long (es ++ e ∷ []) ss h.long ∙ rw length-append (omega arith)

  sequence-grows : (s : List ℕ) → is_sixteen s ≡ true → length (paper_bytes es (ss ++ s ∷ [])) ≡ length_for w₀ + 16
  sequence-grows s l = paper-long es (ss ++ s ∷ []) (all_end is_sixteen ss s h.long l) ∙ rw length-append (omega arith)

  is-misplaced : (i : Item) → is_misplaced w₀ i ≡ true → added w₀ b₀ i ≡ (Err Order, b₀)
  unfolding added
  is-misplaced i m = rw (p-whole es ss h r, m)

  is-over : (i : Item) → is_misplaced w₀ i ≡ false → is_full w₀ i ≡ true → added w₀ b₀ i ≡ (Err Full, b₀)
  unfolding added
  is-over i m f = rw (p-whole es ss h r, m, f)

  none_yet : (s : List ℕ) → length es ≡ 0 → is_misplaced w₀ (sequence s) ≡ false
  none_yet s z = rw z

  on-a-paper : OnAPaper es ss r
  on-a-paper =
      record {
        misnamed = λ e n. is-misplaced (event e) (lt-ltb (length ss) e.sequence n);
        event-1001 = λ e n f. is-over (event e) (le-ltb (length ss) e.sequence n) (le-leb 1000 (length es) (omega arith));
        event-short = λ e n f. on-short (event e) (le-ltb (length ss) e.sequence n) (lt-leb 1000 (length es) f) 20 (event-grows e);
        event-more = λ e n f s. on-more (event e) (le-ltb (length ss) e.sequence n) (lt-leb 1000 (length es) f) 20 (event-grows e) s ∙ rw length-append;
        late = λ s n. is-misplaced (sequence s) (rw (ne_eqb (length es) 0 (λ z. omega arith)));
        sequence-65 = λ s z f. is-over (sequence s) (none_yet s z) (le-leb 64 (length ss) (omega arith));
        sequence-short = λ s l z f. on-short (sequence s) (none_yet s z) (lt-leb 64 (length ss) f) 16 (sequence-grows s l);
        sequence-more = λ s l z f k. on-more (sequence s) (none_yet s z) (lt-leb 64 (length ss) f) 16 (sequence-grows s l) k ∙ rw length-append;
      }

pub on-papers : OnPapers
on-papers es ss r h = on-a-paper es ss r h

-- ---- calls one after another

fewer-sequences : (xs ys : List (List ℕ)) → Holds [] (xs ++ ys) → Holds [] xs
fewer-sequences xs ys h =
    record { events = h.events; sequences = omega (arith, length-append xs ys, h.sequences); long = (all-parts is_sixteen xs ys h.long).0; named = refl }

fewer-events : (xs ys : List Entry) (ss : List (List ℕ)) → Holds (xs ++ ys) ss → Holds xs ss
fewer-events xs ys ss h =
    record { events = omega (arith, length-append xs ys, h.events); sequences = h.sequences; long = h.long; named = (all-parts (names (length ss)) xs ys h.named).0 }

write-sequences : (ss done : List (List ℕ)) (b c : List ℕ) (more : List Item) → Stands [] done b c → Holds [] (done ++ ss) → 12 + 16 * length (done ++ ss) ≤ length b
    → (d : List ℕ) × Stands [] (done ++ ss) b d × (added_all (Ok (many [] done), c) (map sequence ss ++ more) ≡ added_all (Ok (many [] (done ++ ss)), d) more)
write-sequences [] done b c more st h room = rw (append-nil done) (c, st, refl)
write-sequences (s ∷ ss) done b c more st h room =
    let e = append_snoc done s ss in
    let h₁ : Holds [] (done ++ s ∷ []) = fewer-sequences (done ++ s ∷ []) ss (rw e h) in
    let l₀ = paper-long [] done (all-parts is_sixteen done (s ∷ ss) h.long).0 in
    let l₁ = paper-long [] (done ++ s ∷ []) h₁.long in
    let n₁ = length-append done (s ∷ []) in
    let n₂ = length-append done (s ∷ ss) in
    let r : length (paper_bytes [] (done ++ s ∷ [])) ≤ length b = omega arith in
    let f = step [] done b c st (sequence s) refl (lt-leb 64 (length done) (omega (arith, h₁.sequences))) (omega arith) r in
    let k = rw e at (write-sequences ss (done ++ s ∷ []) b (front [] (done ++ s ∷ []) b) more (stands [] (done ++ s ∷ []) h₁ b r) (rw e h) (rw e room)) in
    (k.0, k.1, ap (λ x. added_all x (map sequence ss ++ more)) f ∙ k.2)

write-events : (es done : List Entry) (ss : List (List ℕ)) (b c : List ℕ) → Stands done ss b c → Holds (done ++ es) ss → 12 + 20 * length (done ++ es) + 16 * length ss ≤ length b
    → (d : List ℕ) × Stands (done ++ es) ss b d × (added_all (Ok (many done ss), c) (map event es) ≡ (Ok (many (done ++ es) ss), d))
write-events [] done ss b c st h room = rw (append-nil done) (c, st, refl)
write-events (x ∷ es) done ss b c st h room =
    let e = append_snoc done x es in
    let h₁ : Holds (done ++ x ∷ []) ss = fewer-events (done ++ x ∷ []) es ss (rw e h) in
    let l₀ = paper-long done ss h.long in
    let l₁ = paper-long (done ++ x ∷ []) ss h.long in
    let n₁ = length-append done (x ∷ []) in
    let n₂ = length-append done (x ∷ es) in
    let r : length (paper_bytes (done ++ x ∷ []) ss) ≤ length b = omega arith in
    let q = leb-true x.sequence (length ss) (and_split (names (length ss) x) (all (names (length ss)) es) (all-parts (names (length ss)) done (x ∷ es) h.named).1).0 in
    let f = step done ss b c st (event x) (le-ltb (length ss) x.sequence q) (lt-leb 1000 (length done) (omega (arith, h₁.events))) (omega arith) r in
    let k = rw e at (write-events es (done ++ x ∷ []) ss b (front (done ++ x ∷ []) ss b) (stands (done ++ x ∷ []) ss h₁ b r) (rw e h) (rw e room)) in
    (k.0, k.1, ap (λ y. added_all y (map event es)) f ∙ k.2)

pub refusal-numbers : WriterRefusalNumbers
refusal-numbers = record { badpaper = refl; order = refl; full = refl; noroom = refl }

pub writes-all : WritesAll
writes-all es ss b h k room =
    let l = paper-long es ss h.long in
    let g : Holds [] ss = record { events = omega arith; sequences = h.sequences; long = h.long; named = refl } in
    let s = write-sequences ss [] b b (map event es) (first b) g (omega arith) in
    let t = write-events es [] ss b s.0 s.1 h (omega arith) in
    s.2 ∙ t.2 ∙ ap (λ x. (Ok (many es ss), x)) (t.1.shown (omega arith))

-- ---- a paper that is read and written again

record Accepted (p : List ℕ) : Type 0 where
  paper : Paper p
  some-events : 1 ≤ event_count p

accepted : (p : List ℕ) (n : ℕ) → paper_of p ≡ Ok n → Accepted p
accepted p n = go (paper-read p)
  where
    go : {r : Read} → PaperRead p r → r ≡ Ok n → Accepted p
    go (broken offset m q h) e = cc
    go (empty h k) e = cc
    go (some f k) e = record { paper = f; some-events = k }

pub written-again : WrittenAgain
written-again p b n bytes a room =
    let f = accepted p n a in
    let o = one_form p bytes f.paper.fits in
    let e = entries-count p 12 (event_count p) in
    let s = sixteens-count p (sequences_at p) (sequence_count p) in
    let h : Holds (entries_of p) (sequences_of p) =
    record {
      events = rw e f.paper.events;
      sequences = rw s f.paper.sequences;
      long = sixteens-sixteen p (sequences_at p) (sequence_count p);
      named = rw s (names-have p f.paper.fits);
    } in
    rw (o, e, s) at (writes-all (entries_of p) (sequences_of p) b h (rw e (omega (arith, f.some-events))) (rw o room))
