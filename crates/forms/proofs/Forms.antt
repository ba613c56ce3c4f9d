-- A paper is its events and its sequences. Assumes nothing.
use Prim.Native.Nat.{ℕ, zero, suc, ◌+◌, ◌*◌, ◌≤◌, ◌<◌}
use native.Mathlib.Nat.{div-add-mod'}
use native.Mathlib.Omega.{arith}
use mathlib.Core.Path.{◌≡◌, refl, sym, ap, ◌∙◌}
use mathlib.Core.Bool.{true}
use mathlib.Core.List.{List, [], ◌++◌, map, append_assoc, append-nil}
use lib.ListN.{length, get_or, replicate, length-append}
use lib.Dec.{leb}
use lib.Seq.{take-length}
use borrow.Author.Tests.{eqb-true, leb-true, le-leb, eq-eqb}
use Rattle.locks.specs.Lists.{all}
use Rattle.locks.proofs.Tests.{and_split}
use Rattle.papers.specs.Bytes.{number16, bytes16, run, sixteens_from, joined, is_sixteen}
use Rattle.papers.specs.Layout.{field, event_count, sequence_count, sequences_at, paper_length, header_fits, names_fit, paper_fits}
use Rattle.papers.specs.Entries.{entry_at, entries_from, entries_of, sequences_of}
use Rattle.papers.specs.Events.{sequence_of, event_at, events_from}
use Rattle.papers.specs.declared.entries.Entry.{Entry}
use Rattle.papers.proofs.Runs.{sixteens-count, sixteens-back}
use Rattle.papers.proofs.Files.{and_left, and_right, paper-counts, same-refused}
use Rattle.forms.specs.Form.{entry_bytes, length_of, paper_header, paper_bytes, nth, event_of}
use Rattle.forms.specs.Promises.{Holds, ReadsBack, FormsDiffer, Bytes, OneForm}
use Rattle.forms.proofs.Laws.{entries-count, header-long, entries-long, paper-long, run-both, run_take, high, low, entries-run, sixteens-run, entries-back, names, names-all}

-- ---- the numbers of a header

module _ (es : List Entry) (ss : List (List ℕ)) where
  at-0 : number16 (paper_bytes es ss) 0 ≡ 1
  unfolding number16 paper_bytes paper_header
  at-0 = refl

  pub at-2 : number16 (paper_bytes es ss) 2 ≡ length es
  unfolding number16 paper_bytes paper_header
  at-2 = div-add-mod' (length es) 256

  at-4 : number16 (paper_bytes es ss) 4 ≡ 12
  unfolding number16 paper_bytes paper_header
  at-4 = refl

  pub at-6 : number16 (paper_bytes es ss) 6 ≡ length ss
  unfolding number16 paper_bytes paper_header
  at-6 = div-add-mod' (length ss) 256

  at_8 : number16 (paper_bytes es ss) 8 ≡ 12 + 20 * length es
  unfolding number16 paper_bytes paper_header
  at_8 = div-add-mod' (12 + 20 * length es) 256

  at-10 : number16 (paper_bytes es ss) 10 ≡ length_of (length es) (length ss)
  unfolding number16 paper_bytes paper_header
  at-10 = div-add-mod' (length_of (length es) (length ss)) 256

  -- ---- what is read of the paper, and of a buffer that begins with it

  pub entries-read : (r : List ℕ) → entries_from (paper_bytes es ss ++ r) 12 (length es) ≡ es
  unfolding paper_bytes
  entries-read r =
      let h = paper_header (length es) (length ss) in
      let k = rw (header-long (length es) (length ss)) at (entries-back h (joined ss ++ r) es) in
      rw (append_assoc (h ++ joined (map entry_bytes es)) (joined ss) r, append_assoc h (joined (map entry_bytes es)) (joined ss ++ r)) k

  pub sequences-read : (r : List ℕ) → all is_sixteen ss ≡ true → sixteens_from (paper_bytes es ss ++ r) (12 + 20 * length es) (length ss) ≡ ss
  unfolding paper_bytes
  sequences-read r a =
      let h = paper_header (length es) (length ss) ++ joined (map entry_bytes es) in
      let l : length h ≡ 12 + 20 * length es = rw (length-append, header-long, entries-long) in
      rw (append_assoc h (joined ss) r) (rw l at (sixteens-back h r ss a))

  module _ (held : Holds es ss) where
    header : header_fits (paper_bytes es ss) ≡ true
    unfolding header_fits field
    header =
        rw (
          at-0,
          at-2,
          at-4,
          at-6,
          at_8,
          at-10,
          le-leb 0 (length es) (omega arith),
          le-leb (length es) 1000 held.events,
          le-leb 0 (length ss) (omega arith),
          le-leb (length ss) 64 held.sequences,
          le-leb (12 + 20 * length es) (12 + 20 * length es) (omega arith),
          le-leb (length_of (length es) (length ss)) (length_of (length es) (length ss)) (omega arith),
          eq-eqb (length (paper_bytes es ss)) (length_of (length es) (length ss)) (paper-long es ss held.long),
        )

    pub made-entries : entries_of (paper_bytes es ss) ≡ es
    made-entries = rw at-2 (rw (append-nil (paper_bytes es ss)) at (entries-read []))

    pub made-sequences : sequences_of (paper_bytes es ss) ≡ ss
    made-sequences = rw (at-2, at-6) (rw (append-nil (paper_bytes es ss)) at (sequences-read [] held.long))

    pub made-fits : paper_fits (paper_bytes es ss) ≡ true
    unfolding paper_fits
    made-fits = rw (header, names-all (paper_bytes es ss) 12 (event_count (paper_bytes es ss)), made-entries, at-6) held.named

-- ---- the events that the reader gives

places-at : (p : List ℕ) (at m n : ℕ) (d : List ℕ) → n < m → get_or (sixteens_from p at m) n d ≡ run p (at + 16 * n) 16
places-at p at zero n d h = absurd (omega arith)
places-at p at (suc m) zero d h = let e : at + 16 * 0 ≡ at = omega arith in rw e
places-at p at (suc m) (suc n) d h = let e : at + 16 * suc n ≡ at + 16 + 16 * n = omega arith in rw e (places-at p (at + 16) m n d (omega arith))

module _ (p : List ℕ) (o : number16 p 8 ≡ sequences_at p) where
  sequence-nth : (n : ℕ) → n ≤ sequence_count p → sequence_of p n ≡ nth (sequences_of p) n
  unfolding sequence_of
  sequence-nth zero h = refl
  sequence-nth (suc n) h = rw o (sym (places-at p (sequences_at p) (sequence_count p) n (replicate 16 0) (omega arith)))

  event-entry : (at : ℕ) → names (sequence_count p) (entry_at p at) ≡ true → event_at p at ≡ event_of (sequences_of p) (entry_at p at)
  unfolding event_at entry_at
  event-entry at h = rw (sequence-nth (number16 p (at + 18)) (leb-true (number16 p (at + 18)) (sequence_count p) h))

  pub events-entries : (at n : ℕ) → all (names (sequence_count p)) (entries_from p at n) ≡ true → events_from p at n ≡ map (event_of (sequences_of p)) (entries_from p at n)
  events-entries at zero h = refl
  events-entries at (suc n) h =
      let s = and_split (names (sequence_count p) (entry_at p at)) (all (names (sequence_count p)) (entries_from p (at + 20) n)) h in
      rw (event-entry at s.0, events-entries (at + 20) n s.1)

pub reads-back : ReadsBack
reads-back es ss h =
    let p = paper_bytes es ss in
    let f = made-entries es ss h in
    let g = made-sequences es ss h in
    record {
      fits = made-fits es ss h;
      accepted = λ k. rw (at-2 es ss) at (paper-counts p (made-fits es ss h) (rw (at-2 es ss) k));
      blank = λ z. (same-refused.blanks p).1 (made-fits es ss h, at-2 es ss ∙ z);
      entries = f;
      sequences = g;
      events = rw (f, g) at (events-entries p (at_8 es ss ∙ rw (at-2 es ss)) 12 (event_count p) (rw (f, at-6 es ss) h.named));
    }

pub forms-differ : FormsDiffer
forms-differ es es' ss ss' h h' e =
    (sym (made-entries es ss h) ∙ ap entries_of e ∙ made-entries es' ss' h', sym (made-sequences es ss h) ∙ ap sequences_of e ∙ made-sequences es' ss' h')

-- ---- a paper has one form

-- the header's numbers
record Header (p : List ℕ) : Type 0 where
  pub version : number16 p 0 ≡ 1
  pub events-at : number16 p 4 ≡ 12
  pub sequences-at : number16 p 8 ≡ sequences_at p
  pub all-long : number16 p 10 ≡ paper_length p
  pub long : length p ≡ paper_length p

only : (p : List ℕ) (at n : ℕ) → field p at n n ≡ true → number16 p at ≡ n
unfolding field
only p at n h =
    let s = and_split (leb n (number16 p at)) (leb (number16 p at) n) h in
    omega (arith, leb-true n (number16 p at) s.0, leb-true (number16 p at) n s.1)

header-has : (p : List ℕ) → paper_fits p ≡ true → Header p
unfolding paper_fits header_fits
header-has p h = search (only, eqb-true, and_left, and_right) depth 8

pub names-have : (p : List ℕ) → paper_fits p ≡ true → all (names (sequence_count p)) (entries_of p) ≡ true
unfolding paper_fits
names-have p h = rw (names-all p 12 (event_count p)) at (and_right (header_fits p) (names_fit p 12 (event_count p)) h)

module _ (p : List ℕ) (b : Bytes p) where
  six : bytes16 (number16 p 0) ++ bytes16 (number16 p 2) ++ bytes16 (number16 p 4) ++ bytes16 (number16 p 6) ++ bytes16 (number16 p 8) ++ bytes16 (number16 p 10) ≡ run p 0 12
  six = simp (high p b, low p b)

  header-run : Header p → paper_header (event_count p) (sequence_count p) ≡ run p 0 12
  unfolding paper_header
  header-run h = rw (h.version, h.events-at, h.sequences-at, h.all-long) at six

  formed : paper_fits p ≡ true → paper_bytes (entries_of p) (sequences_of p) ≡ p
  unfolding paper_bytes
  formed f =
      let h = header-has p f in
      let e : 12 + 20 * event_count p + 16 * sequence_count p ≡ length p = sym h.long in
      let z : 0 + (12 + 20 * event_count p) ≡ 12 + 20 * event_count p = omega arith in
      rw (
        entries-count p 12 (event_count p),
        sixteens-count p (sequences_at p) (sequence_count p),
        header-run h,
        entries-run p b 12 (event_count p),
        sixteens-run p (sequences_at p) (sequence_count p),
      )
      (ap (λ x. x ++ run p (sequences_at p) (16 * sequence_count p)) (sym (run-both p 0 12 (20 * event_count p)))
      ∙ sym (rw z at (run-both p 0 (12 + 20 * event_count p) (16 * sequence_count p)))
      ∙ rw e (run_take p 0 (length p) (omega arith) ∙ take-length p))

pub one_form : OneForm
one_form p b f = formed p b f
