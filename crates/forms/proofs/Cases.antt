-- The calls come out as written, by computation, one `refl` for each; those at event 1,000 by the laws. Assumes nothing.
use mathlib.Core.Path.{◌≡◌, refl, sym, ap, ◌∙◌}
use Prim.Native.Nat.{ℕ, zero, suc, ◌+◌, ◌≤◌}
use native.Mathlib.Omega.{arith}
use mathlib.Core.List.{List, [], ◌∷◌, ◌++◌, map-append, append-nil}
use lib.ListN.{replicate, length-replicate}
use lib.Dec.{leb}
use Rattle.locks.proofs.Lists.{all_replicate}
use Rattle.locks.proofs.Named.{Each, each_same}
use Rattle.papers.specs.Bytes.{number16, number32}
use Rattle.papers.specs.Layout.{field, header_fits, paper_fits}
use Rattle.papers.specs.Entries.{entry_at}
use Rattle.forms.specs.Form.{entry_bytes, paper_header, paper_bytes}
use Rattle.forms.specs.Adding.{has_counts, begins, is_broken, laid_out, added}
use Rattle.forms.specs.Cases.{FormCases, comes, should, readme, calls, CallCases, tick, naming, ticks, LastEvents}
use Rattle.forms.specs.Promises.{Holds, OnAPaper}
use Rattle.forms.proofs.Promises.{on-papers}

pub form-cases : FormCases
unfolding number16 number32 field header_fits paper_fits entry_at entry_bytes paper_header paper_bytes has_counts begins is_broken laid_out added
form-cases = record { entry = refl; empty = refl; longest = refl; all = refl; short = refl }

readme-holds : Each comes should readme
unfolding number16 number32 field header_fits paper_fits entry_at entry_bytes paper_header paper_bytes has_counts begins is_broken laid_out added readme
readme-holds = (refl, (refl, (refl, (refl, (refl, (refl, (refl, tt)))))))

calls-hold : Each comes should calls
unfolding number16 number32 field header_fits paper_fits entry_at entry_bytes paper_header paper_bytes has_counts begins is_broken laid_out added calls
calls-hold = (refl, (refl, (refl, (refl, (refl, (refl, (refl, (refl, (refl, (refl, (refl, (refl, (refl, (refl, (refl, (refl, (refl, (refl, (refl, (refl, (refl, (refl, (refl, (refl, (refl, (refl, (refl, (refl, (refl, (refl, (refl, (refl, (refl, (refl, (refl, (refl, (refl, (refl, (refl, (refl, (refl, (refl, tt))))))))))))))))))))))))))))))))))))))))))

pub call-cases : CallCases
call-cases = map-append comes readme calls ∙ rw (each_same comes should readme readme-holds, each_same comes should calls calls-hold) (sym (map-append should readme calls))

-- ---- event 1,000 and event 1,001

ticks-held : (n : ℕ) → n ≤ 1000 → Holds (replicate n tick) []
ticks-held n h =
    record {
      events = rw (length-replicate n tick) h;
      sequences = omega arith;
      long = refl;
      named = all_replicate (λ e. leb e.sequence 0) tick refl n;
    }

tick-more : (n : ℕ) → replicate n tick ++ tick ∷ [] ≡ replicate (n + 1) tick
tick-more zero = refl
tick-more (suc n) = let e : suc n + 1 ≡ suc (n + 1) = omega arith in rw e (ap (λ es. tick ∷ es) (tick-more n))

module _ (n : ℕ) (h : n ≤ 1000) (r : List ℕ) where
  on-ticks : OnAPaper (replicate n tick) [] r
  on-ticks = on-papers (replicate n tick) [] r (ticks-held n h)

pub last-events : LastEvents
last-events =
    let l₉ = length-replicate 999 tick in
    let l₀ = length-replicate 1000 tick in
    record {
      at-1000 = rw (l₉, tick-more 999) at ((on-ticks 999 (omega arith) (replicate 21 7)).event-more tick (omega arith) (omega arith) (omega arith));
      at-1001 = rw l₀ at ((on-ticks 1000 (omega arith) (replicate 21 7)).event-1001 tick (omega arith) l₀);
      without-room = rw (l₀, append-nil (ticks 1000)) at ((on-ticks 1000 (omega arith) []).event-1001 tick (omega arith) l₀);
      misnamed = rw (l₀, append-nil (ticks 1000)) at ((on-ticks 1000 (omega arith) []).misnamed (naming 1) (omega arith));
      short = rw l₉ at ((on-ticks 999 (omega arith) (replicate 19 7)).event-short tick (omega arith) (omega arith) (omega arith));
    }
