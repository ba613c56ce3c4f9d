-- The cases hold, by computation; those of files and of places with one `refl` for each. Assumes nothing.
use Prim.Native.Nat.{ℕ, zero, suc, ◌+◌, ◌*◌, ◌≤◌, ◌<◌}
use native.Mathlib.Omega.{arith}
use Rattle.std.specs.Prelude.{Ok}
use mathlib.Core.Path.{◌≡◌, refl, ◌∙◌}
use mathlib.Core.Bool.{true, false}
use mathlib.Core.List.{List, ◌++◌}
use lib.ListN.{get_or, length, replicate, length-append, length-replicate, get_or-replicate, get_or-append}
use lib.Seq.{get_or-append-add}
use lib.Dec.{ltb}
use borrow.Author.Tests.{le-leb}
use Rattle.locks.proofs.Named.{Each, each_same}
use Rattle.papers.specs.Bytes.{number16, number32, bytes16}
use Rattle.papers.specs.Layout.{field, event_count, sequence_count, header_fits, paper_fits, sheet_fits}
use Rattle.papers.specs.Entries.{entry_at}
use Rattle.papers.specs.Events.{sequence_of, event_at}
use Rattle.papers.specs.Answers.{answer_bytes, sheet_header}
use Rattle.papers.specs.Fields.{Field, fault, rule, tested, first_broken, header_rules, name_rules, paper_field, paper_for, paper_of, sheet_field, sheet_of}
use Rattle.papers.specs.Cases.{EventCases, AnswerCases, files, FileCases, places, PlaceCases, header, last_names, LastPlace}
use Rattle.papers.proofs.Fields.{first-parts}

pub event-cases : EventCases
unfolding number16 number32 entry_at sequence_of event_at
event-cases = refl

pub answer-cases : AnswerCases
unfolding answer_bytes sheet_header
answer-cases = refl

files-hold : Each (λ t. t.says) (λ t. t.should) files
unfolding number16 field header_fits paper_fits sheet_fits files
files-hold = (refl, (refl, (refl, (refl, (refl, (refl, (refl, (refl, (refl, (refl, (refl, (refl, (refl, (refl, (refl, (refl, (refl, (refl, (refl, (refl, (refl, (refl, (refl, (refl, (refl, (refl, (refl, (refl, (refl, (refl, (refl, (refl, (refl, (refl, (refl, (refl, (refl, (refl, (refl, tt)))))))))))))))))))))))))))))))))))))))

pub file-cases : FileCases
file-cases = each_same _ _ files files-hold

places-hold : Each (λ r. r.comes) (λ r. r.should) places
unfolding number16 field tested paper_field paper_of sheet_field sheet_of places
places-hold = (refl, (refl, (refl, (refl, (refl, (refl, (refl, (refl, (refl, (refl, (refl, (refl, (refl, (refl, (refl, (refl, (refl, (refl, (refl, (refl, (refl, (refl, (refl, (refl, (refl, (refl, (refl, (refl, (refl, (refl, (refl, (refl, (refl, (refl, (refl, (refl, (refl, (refl, (refl, (refl, (refl, (refl, (refl, (refl, (refl, (refl, (refl, (refl, (refl, (refl, (refl, (refl, (refl, (refl, (refl, (refl, (refl, (refl, (refl, (refl, (refl, (refl, (refl, (refl, tt))))))))))))))))))))))))))))))))))))))))))))))))))))))))))))))))

pub place-cases : PlaceCases
place-cases = each_same _ _ places places-hold

-- ---- a paper too long to compute with: where its events are zeros, their names keep the rule

module _ (head behind : List ℕ) (m : ℕ) where
  abbrev file : List ℕ
  file = head ++ replicate m 0 ++ behind

  zero-at : (j : ℕ) → j < m → get_or file (length head + j) 0 ≡ 0
  zero-at j l =
      let e : length (head ++ replicate m 0) ≡ length head + m = length-append head (replicate m 0) ∙ rw length-replicate in
      get_or-append (head ++ replicate m 0) behind 0 (length head + j) (omega (arith, e)) ∙ get_or-append-add head (replicate m 0) j 0 ∙ get_or-replicate m j 0 0 l

  zero-kept : (j : ℕ) → j + 20 ≤ m → tested file (rule (length head + j + 18) 0 (sequence_count file) true) ≡ Ok tt
  unfolding tested field number16
  zero-kept j l =
      let d : length head + j + 18 ≡ length head + (j + 18) = omega arith in
      let e : length head + (j + 18) + 1 ≡ length head + (j + 19) = omega arith in
      rw (d, e, zero-at (j + 18) (omega arith), zero-at (j + 19) (omega arith), le-leb 0 (sequence_count file) (omega arith))

  past-zeros : (j n k : ℕ) → j + 20 * n ≤ m → first_broken file (name_rules file (length head + j) (n + k)) ≡ first_broken file (name_rules file (length head + (j + 20 * n)) k)
  past-zeros j zero k l = let e : 0 + k ≡ k = omega arith in let f : j + 20 * 0 ≡ j = omega arith in rw (e, f)
  past-zeros j (suc n) k l =
      let e : suc n + k ≡ suc (n + k) = omega arith in
      let f : length head + j + 20 ≡ length head + (j + 20) = omega arith in
      let g : j + 20 * suc n ≡ j + 20 + 20 * n = omega arith in
      rw (e, zero-kept j (omega arith), f, g) (past-zeros (j + 20) n k (omega arith))

named : (p : List ℕ) (n : ℕ) (f : Field) → ltb (length p) 12 ≡ false → event_count p ≡ n → first_broken p (header_rules p) ≡ Ok tt → first_broken p (name_rules p 12 n) ≡ f → paper_of p ≡ paper_for f n
unfolding paper_field paper_of
named p n f l e h k = rw (l, first-parts p (header_rules p) (name_rules p 12 (event_count p)), h, e, k)

last-names : (n : ℕ) → first_broken (last_names n) (name_rules (last_names n) 12 1000) ≡ first_broken (last_names n) (name_rules (last_names n) 19992 1)
last-names n = past-zeros (header 1 1000 12 0 20012 20012) (bytes16 n) 19998 0 999 1 (omega arith)

pub last-place : LastPlace
unfolding number16 field tested
last-place = record { kept = named (last_names 0) 1000 (Ok tt) refl refl refl (last-names 0); broken = named (last_names 1) 1000 (fault 20010) refl refl refl (last-names 1) }
