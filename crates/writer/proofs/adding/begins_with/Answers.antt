-- `writer::adding::begins_with` meets its contract. Assumes nothing.
use Rattle.std.proofs.Common.{rules}
use Rattle.writer.proofs.Calls.{begins-got}
use Rattle.writer.proofs.adding.begins_with.Goals as goal

pub returns : goal.returns
returns c = begins-got c.args.w c.args.out.now c.get.result _ _ (λ p k. search rules) (rw c.length.ensures at c.get.ensures.lookup) c.is_some_and.ensures
