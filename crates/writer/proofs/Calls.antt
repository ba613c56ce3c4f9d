-- What the two calls of a writer find and leave. Assumes nothing.
use Prim.Native.Nat.{ℕ, ◌+◌, ◌-◌, ◌*◌, ◌≤◌, ◌<◌}
use native.Mathlib.Omega.{arith}
use mathlib.Core.Path.{◌≡◌, refl, sym, ap, ◌∙◌}
use mathlib.Core.Bool.{Bool, true, false, ◌&&◌}
use mathlib.Core.List.{List, [], ◌∷◌, ◌++◌, map-append, append_assoc, append-nil}
use lib.ListN.{length, take, drop, length-append}
use lib.Dec.{eqb, ltb}
use lib.Seq.{take_all, length-take-le}
use borrow.Author.Tests.{not-false, eqb-true, eqb-false, eq-eqb, ne_eqb, ltb-false}
use Rattle.std.specs.Prelude.{Result, Ok, Err, Option, None, Some, MatchOption, ⊤}
use Rattle.std.specs.Borrow.{Bor}
use Rattle.std.specs.Slice.{IsGetRangeResult}
use Rattle.locks.specs.Lists.{is_zero}
use Rattle.locks.proofs.Tests.{cases, off, and_split}
use Rattle.papers.specs.Bytes.{sixteens_from, is_sixteen}
use Rattle.papers.specs.Layout.{event_count, sequence_count, paper_fits}
use Rattle.papers.specs.Fields.{paper_of}
use Rattle.papers.specs.Entries.{entries_from}
use Rattle.papers.specs.declared.entries.Entry.{Entry}
use Rattle.papers.specs.Fields.{Read}
use Rattle.papers.proofs.Runs.{sixteens-count, joined-both}
use Rattle.papers.proofs.Files.{Paper, PaperRead, broken, empty, some, paper-has, paper-read}
use Rattle.forms.specs.declared.items.Writer.{Writer}
use Rattle.forms.specs.declared.items.Refusal.{Refusal}
use Rattle.forms.specs.Form.{entry_bytes, paper_header, paper_bytes}
use Rattle.forms.specs.Adding.{Item, sequence, event, counts, length_for, has_counts, begins, is_broken, is_misplaced, is_full, laid_out, Added, added}
use Rattle.forms.specs.Promises.{Bytes, item_long, grown}
use Rattle.writer.specs.Reading.{finds}
use Rattle.writer.specs.Refusing.{checked}
use Rattle.forms.proofs.Laws.{entries-count, entries-run, sixteens-run, run_take}
use Rattle.forms.proofs.Promises.{es', ss', grew, grown-long}

-- ---- the buffer begins with the writer's paper

same-eqb : (a b c d : ℕ) → (a ≡ b → c ≡ d) → (c ≡ d → a ≡ b) → eqb a b ≡ eqb c d
same-eqb a b c d f g =
    cases (eqb a b)
    (λ t. t ∙ sym (eq-eqb c d (f (eqb-true a b t))))
    (λ t. t ∙ sym (ne_eqb c d (λ e. eqb-false a b t (g e))))

module _ (w : Writer) (p : List ℕ) (l : length p ≡ length_for w) where
  -- the length and one count give the other
  agree : Paper p → (eqb (event_count p) w.events && eqb (sequence_count p) w.sequences) ≡ eqb (event_count p) w.events
  agree f =
      cases (eqb (event_count p) w.events)
      (λ t. let e = eqb-true (event_count p) w.events t in rw (t, eq-eqb (sequence_count p) w.sequences (omega (arith, f.long))))
      (λ t. rw t)

  pub counts-read : finds (paper_of p) w.events ≡ has_counts w p
  unfolding has_counts
  counts-read = go (paper-read p)
    where
      go : {r : Read} → PaperRead p r → finds r w.events ≡ (paper_fits p && eqb (event_count p) w.events && eqb (sequence_count p) w.sequences)
      go (broken offset m q n) = rw n
      go (empty h z) = rw h (same-eqb w.events 0 (event_count p) w.events (λ k. omega arith) (λ k. omega arith) ∙ sym (agree (paper-has p h)))
      go (some f k) = rw f.fits (sym (agree f))

module _ (w : Writer) (b : List ℕ) where
  pub begins-short : length b < length_for w → begins w b ≡ false
  unfolding begins has_counts
  begins-short h =
      off (has_counts w (take (length_for w) b))
      (λ t. let e : take (length_for w) b ≡ b = take_all (length_for w) b (omega arith) in
      let s = and_split (paper_fits b && eqb (event_count b) w.events) (eqb (sequence_count b) w.sequences) (rw e at t) in
      let r = and_split (paper_fits b) (eqb (event_count b) w.events) s.0 in
      omega (arith, (paper-has b r.0).long, eqb-true (event_count b) w.events r.1, eqb-true (sequence_count b) w.sequences s.1))

  pub begins-read : length_for w ≤ length b → finds (paper_of (take (length_for w) b)) w.events ≡ begins w b
  unfolding begins
  begins-read h = counts-read w (take (length_for w) b) (length-take-le (length_for w) b h)

  -- what is got of the buffer, if it is long enough, is asked
  pub begins-got : (got : Option (Bor (List ℕ))) (t : Bool) (Asked : Bor (List ℕ) → Type 0) → ((p : Bor (List ℕ)) → Asked p → t ≡ finds (paper_of p.now) w.events)
      → IsGetRangeResult b 0 (length_for w) got → MatchOption got (t ≡ false) Asked → t ≡ begins w b
  begins-got None t Asked k h e = let l : length b < length_for w = omega (arith, h.0) in e ∙ sym (begins-short l)
  begins-got (Some p) t Asked k h e =
      let n : length_for w - 0 ≡ length_for w = omega arith in
      rw (rw n at h.0.2) at (k p e) ∙ begins-read h.0.1

-- ---- what is put together is the paper

module _ (o : List ℕ) (b : Bytes o) where
  event-laid : (n m : ℕ) (e : Entry) → 12 + 20 * n + 16 * m ≤ length o
      → paper_bytes (entries_from o 12 n ++ e ∷ []) (sixteens_from o (12 + 20 * n) m)
      ≡ paper_header (n + 1) m ++ take (20 * n) (drop 12 o) ++ entry_bytes e ++ take (16 * m) (drop (12 + 20 * n) o)
  unfolding paper_bytes
  event-laid n m e h =
      rw (
        length-append,
        entries-count o 12 n,
        sixteens-count o (12 + 20 * n) m,
        map-append,
        joined-both,
        entries-run o b 12 n,
        sixteens-run o (12 + 20 * n) m,
        run_take o 12 (20 * n) (omega arith),
        run_take o (12 + 20 * n) (16 * m) h,
        append-nil (entry_bytes e),
      )
      (simp append_assoc)

sequence-laid : (o s : List ℕ) (m : ℕ) → 12 + 16 * m ≤ length o → paper_bytes [] (sixteens_from o 12 m ++ s ∷ []) ≡ paper_header 0 (m + 1) ++ take (16 * m) (drop 12 o) ++ s
unfolding paper_bytes
sequence-laid o s m h =
    rw (length-append, sixteens-count o 12 m, joined-both, sixteens-run o 12 m, run_take o 12 (16 * m) h, append-nil s) (simp (append_assoc, append-nil))

-- ---- the refusals, and what an item makes of the paper

-- what is so where nothing is refused
pub record Passed (w : Writer) (b : List ℕ) (misplaced full : Bool) (more : ℕ) : Type 0 where
  pub whole : is_broken w b ≡ false
  pub placed : misplaced ≡ false
  pub few : full ≡ false
  pub room : length_for w + more ≤ length b

pub passed : (w : Writer) (b : List ℕ) (misplaced full : Bool) (more : ℕ) {u : ⊤} → Ok u ≡ checked w b misplaced full more → Passed w b misplaced full more
passed w b true full more e = cases (is_broken w b) (λ t. let f = rw t at e in cc) (λ t. let f = rw t at e in cc)
passed w b false true more e = cases (is_broken w b) (λ t. let f = rw t at e in cc) (λ t. let f = rw t at e in cc)
passed w b false false more e =
    cases (is_broken w b)
    (λ t. let f = rw t at e in cc)
    (λ t. cases (ltb (length b) (length_for w + more))
    (λ r. let f = rw (t, r) at e in cc)
    (λ r. record { whole = t; placed = refl; few = refl; room = ltb-false (length b) (length_for w + more) r }))

module _ (w : Writer) (b : List ℕ) (i : Item) (long : item_long i ≡ true) (more : ℕ) (grows : length_for (grown w i) ≡ length_for w + more) where
  abbrev tested : Result ⊤ Refusal
  tested = checked w b (is_misplaced w i) (is_full w i) more

  abbrev p : List ℕ
  p = paper_bytes (es' w b i) (ss' w b i)

  abbrev answered : Result ⊤ Refusal → Added × List ℕ
  answered (Err r) = (Err r, b)
  answered (Ok u) = (Ok (grown w i), p ++ drop (length_for w + more) b)

  added-answered : added w b i ≡ answered tested
  unfolding added laid_out
  added-answered =
      cases (is_broken w b) (λ t. rw t)
      (λ t. cases (is_misplaced w i) (λ m. rw (t, m))
      (λ m. cases (is_full w i) (λ f. rw (t, m, f))
      (λ f. rw (t, m, f, grown-long w b i long, grows, grew w b i)
      (cases (ltb (length b) (length_for w + more)) (λ r. rw r) (λ r. rw r)))))

  pub refused : {r : Refusal} → Err r ≡ tested → (Err r, b) ≡ added w b i
  refused e = ap answered e ∙ sym added-answered

  pub taken : {u : ⊤} → Ok u ≡ tested → (x : List ℕ) → p ≡ x → (Ok (grown w i), x ++ drop (length_for w + more) b) ≡ added w b i
  taken e x q = rw (← q) (ap answered e ∙ sym added-answered)

module _ (w : Writer) (b : List ℕ) where
  pub event-taken : Bytes b → (e : Entry) {u : ⊤} → Ok u ≡ checked w b (is_misplaced w (event e)) (is_full w (event e)) 20
      → (Ok (counts (w.events + 1) w.sequences), paper_header (w.events + 1) w.sequences ++ take (20 * w.events) (drop 12 b) ++ entry_bytes e ++ take (16 * w.sequences) (drop (12 + 20 * w.events) b) ++ drop (12 + 20 * w.events + (20 + 16 * w.sequences)) b)
      ≡ added w b (event e)
  event-taken h e t =
      let k = passed w b _ _ 20 t in
      let n : length_for w + 20 ≡ 12 + 20 * w.events + (20 + 16 * w.sequences) = omega arith in
      rw n at (taken w b (event e) refl 20 (omega arith) t _ (event-laid b h w.events w.sequences e (omega arith)))

  pub sequence-taken : (s : List ℕ) → is_sixteen s ≡ true → {u : ⊤} → Ok u ≡ checked w b (is_misplaced w (sequence s)) (is_full w (sequence s)) 16
      → (Ok (counts w.events (w.sequences + 1)), paper_header 0 (w.sequences + 1) ++ take (16 * w.sequences) (drop 12 b) ++ s ++ drop (12 + 16 * w.sequences + 16) b) ≡ added w b (sequence s)
  sequence-taken s l t =
      let k = passed w b _ _ 16 t in
      let z : w.events ≡ 0 = eqb-true w.events 0 (not-false (is_zero w.events) k.placed) in
      let n : length_for w + 16 ≡ 12 + 16 * w.sequences + 16 = omega arith in
      rw n at (taken w b (sequence s) l 16 (omega arith) t (paper_header 0 (w.sequences + 1) ++ take (16 * w.sequences) (drop 12 b) ++ s) (rw z (sequence-laid b s w.sequences (omega arith))))
