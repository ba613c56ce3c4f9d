-- `writer::records::paper_header` meets its contract. Assumes nothing.
use Rattle.std.proofs.Common.{◌≡◌, sym, ◌∙◌, arith, rules}
use Rattle.std.proofs.Math.Seq.{take_all}
use Rattle.std.proofs.lemmas.Grind.{common_steps}
use Rattle.papers.specs.Bytes.{bytes16}
use Rattle.papers.proofs.Numbers.{written16, put-next}
use Rattle.forms.specs.Form.{paper_header}
use Rattle.writer.proofs.records.paper_header.Goals as goal

pub loop-k-preserved : goal.loop-k-preserved
loop-k-preserved c =
    let l = c.loop-k in
    let b = c.copy_from_slice.new.self in
    let e = c.copy_from_slice.ensures.after ∙ c.to_be_bytes.ensures ∙ written16 _ (search rules) in (
      grind (arith, common_steps),
      put-next bytes16 2 _ l.bytes b l.k _ (omega arith) (omega arith) (rw e) e l.invariant.1,
    )

pub returns : goal.returns
unfolding paper_header
returns c =
    let l = c.loop-k in
    let e : l.k ≡ 6 = omega arith in
    sym (take_all 12 l.bytes (omega arith)) ∙ rw e at l.invariant.1
