-- What a writer that is not refused as badpaper finds in its buffer. Assumes nothing.
use Prim.Native.Nat.{ℕ, ◌≤◌}
use native.Mathlib.Omega.{arith}
use mathlib.Core.Path.{◌≡◌}
use mathlib.Core.Bool.{true, false, ◌&&◌}
use mathlib.Core.List.{List}
use lib.ListN.{length, take, length-take}
use lib.Dec.{eqb}
use borrow.Author.Tests.{not-false, eqb-true}
use Rattle.locks.specs.Lists.{is_zero}
use Rattle.locks.proofs.Tests.{cases, and_split}
use Rattle.papers.specs.Layout.{event_count, sequence_count, paper_fits}
use Rattle.papers.proofs.Files.{paper-has}
use Rattle.forms.specs.declared.items.Writer.{Writer}
use Rattle.forms.specs.Adding.{length_for, has_counts, begins, is_broken}

-- the buffer begins with the writer's paper
pub record Whole (w : Writer) (b : List ℕ) : Type 0 where
  pub fits : paper_fits (take (length_for w) b) ≡ true
  pub events : event_count (take (length_for w) b) ≡ w.events
  pub sequences : sequence_count (take (length_for w) b) ≡ w.sequences
  pub room : length_for w ≤ length b

module _ (w : Writer) (b : List ℕ) where
  pub whole : begins w b ≡ true → Whole w b
  unfolding begins has_counts
  whole t =
      let p = take (length_for w) b in
      let s = and_split (paper_fits p && eqb (event_count p) w.events) (eqb (sequence_count p) w.sequences) t in
      let r = and_split (paper_fits p) (eqb (event_count p) w.events) s.0 in
      let e = eqb-true (event_count p) w.events r.1 in
      let n = eqb-true (sequence_count p) w.sequences s.1 in
      record { fits = r.0; events = e; sequences = n; room = omega (arith, (paper-has p r.0).long, e, n, length-take (length_for w) b) }

  -- either there was no call yet, or the buffer begins with the writer's paper
  pub unbroken : {P : Type 0} → is_broken w b ≡ false → (w.events ≡ 0 → w.sequences ≡ 0 → P) → (Whole w b → P) → P
  unfolding is_broken
  unbroken t f g =
      cases (is_zero w.events && is_zero w.sequences)
      (λ z. let s = and_split (is_zero w.events) (is_zero w.sequences) z in f (eqb-true w.events 0 s.0) (eqb-true w.sequences 0 s.1))
      (λ z. g (whole (not-false (begins w b) (rw z at t))))

  pub few : is_broken w b ≡ false → w.sequences ≤ 64
  few t = unbroken t (λ e s. omega arith) (λ h. omega (arith, (paper-has (take (length_for w) b) h.fits).sequences, h.sequences))

  pub few-events : is_broken w b ≡ false → w.events ≤ 1000
  few-events t = unbroken t (λ e s. omega arith) (λ h. omega (arith, (paper-has (take (length_for w) b) h.fits).events, h.events))
