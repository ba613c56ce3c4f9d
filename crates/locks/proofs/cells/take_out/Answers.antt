-- `cells::take_out` meets its contract. Assumes nothing.
use Rattle.std.proofs.Common.{◌≡◌, ◌-◌, ◌*◌, ap, ◌∙◌, arith, [], not, replicate, le_trans}
use borrow.Rule.Slice.PartMut.{mid_len}
use Rattle.locks.specs.Rows.{goes}
use Rattle.locks.specs.Cells.{CELL, whole_row}
use Rattle.locks.proofs.Fewer.{fewer-sift, fewer-all, fewer-length}
use Rattle.locks.proofs.Gaps.{cleared}
use Rattle.locks.proofs.cells.take_out.Goals as goal

pub returns : goal.returns
returns c =
    let used = c.args.used in
    let k = c.close_up-k.result in
    let zeros : c.fill.new.self ≡ replicate (used * CELL - k * CELL) 0 = c.fill.ensures.after (λ y e. e) ∙ ap (λ n. replicate n 0) (mid_len (k * CELL) (used * CELL) c.close_up-k.new.t (omega arith)) in
    λ rows r l e n.
    let d = c.close_up-k.ensures.closed rows r l e n in
    let fewer = fewer-sift (λ a q. not (goes c.args.part r a q)) [] rows in
    record {
      laid = record {
        is = cleared k (rw e at d.trails) d.count c.requires zeros;
        few = le_trans (fewer-length fewer) l.few;
        whole = fewer-all whole_row fewer l.whole;
      };
      count = d.count;
    }
