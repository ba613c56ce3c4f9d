-- `papers::bytes::padded_at` meets its contract. Assumes nothing.
use Rattle.std.proofs.Common.{rules, ℕ, ◌≡◌, List, [], length, drop, refl, ap, ◌∙◌, arith, Bor}
use Rattle.std.specs.Prelude.{Option, Some, None, unwrap_or}
use Rattle.std.specs.Slice.{IsGetRangeResult}
use Rattle.std.proofs.lemmas.Slice.{between_to_end}
use Rattle.std.proofs.lemmas.Grind.{common_steps}
use Rattle.papers.proofs.Runs.{filled_none, filled-more, filled-past, filled-all}
use Rattle.papers.proofs.bytes.padded_at.Goals as goal
use Rattle.papers.proofs.bytes.padded_at.Goals.{then-k-rest, else-k-rest}

-- the file from `at` on
left : (file : List ℕ) (at : ℕ) (r : Option (Bor (List ℕ))) (d : Bor (List ℕ)) → d.now ≡ [] → IsGetRangeResult file at (length file) r → (unwrap_or r d).now ≡ drop at file
left file at None d e h = grind (arith, common_steps)
left file at (Some x) d e h = h.0.2 ∙ between_to_end file at (length file) (omega arith)

pub loop-k-init : goal.loop-k-init
loop-k-init g c = filled_none c.unwrap_or-rest.result.now g.row.N

pub loop-k-preserved : goal.loop-k-preserved
loop-k-preserved g c =
    let p = c.loop-k.invariant in
    elim c.if-k-rest.branch [
      | then-k-rest w ↦ rw w.bytes-is (filled-more p c.loop-k-test.true)
      | else-k-rest w ↦ rw w.bytes-is (filled-past p (search rules))
    ]

pub returns : goal.returns
returns g c =
    let a = c.args in
    let rest = ap (λ x. x.now) c.unwrap_or-rest.ensures ∙ left a.file.now a.at _ _ refl c.get.ensures.lookup in
    filled-all c.loop-k.invariant a.file.now a.at rest c.loop-k-test.false
