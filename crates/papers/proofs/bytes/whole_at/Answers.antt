-- `papers::bytes::whole_at` meets its contract. Assumes nothing.
use Rattle.std.proofs.Common.{ℕ, ◌<◌, ◌≤◌, ◌≡◌, List, length, take, drop, ◌∙◌, arith, Bor}
use Rattle.std.specs.Prelude.{Option, Some, None, MatchOption, IfSome}
use Rattle.std.specs.Array.{IsFirstChunk}
use Rattle.std.proofs.lemmas.Slice.{between_to_end}
use Rattle.std.proofs.lemmas.Grind.{common_steps}
use Rattle.papers.specs.Bytes.{run}
use Rattle.papers.proofs.Runs.{run-of}
use Rattle.papers.proofs.bytes.whole_at.Goals as goal

whole : (file rest : List ℕ) (at n : ℕ) → rest ≡ drop at file → n ≤ length rest → take n rest ≡ run file at n
whole file rest at n e h = run-of file (take n rest) at n (grind (arith, common_steps)) (λ i k. grind (arith, common_steps))

first : (file rest : List ℕ) (at n : ℕ) (r : Option (Bor (List ℕ))) → rest ≡ drop at file → MatchOption r (length rest < n) (λ y. IsFirstChunk rest y.now n) → IfSome r (λ bytes. bytes.now ≡ run file at n)
first file rest at n None e h = tt
first file rest at n (Some y) e h = h.same ∙ whole file rest at n e h.enough

pub returns : goal.returns
returns g c =
    let file = c.args.file.now in
    first file _ c.args.at g.row.N c.first_chunk.result (c.in_ok-get.ensures.lookup.0.2 ∙ between_to_end file c.args.at (length file) (omega arith)) c.first_chunk.ensures.cases
