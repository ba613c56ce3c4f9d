-- `model::layout::put_processes` meets its contract. Assumes nothing.
use Rattle.std.proofs.Common.{arith, refl}
use lib.Seq.{take_all}
use Rattle.model.proofs.Putting.{put-none, put-more}
use Rattle.model.proofs.layout.put_processes.Goals as goal

pub loop-i-init : goal.loop-i-init
loop-i-init c = put-none c.requires.1

pub loop-i-preserved : goal.loop-i-preserved
loop-i-preserved c =
    put-more c.args.procs.now c.loop-i.i _ c.loop-i.invariant c.loop-i-test.true (omega arith) refl c.put_process.ensures.0 c.put_process.ensures.1

pub returns : goal.returns
returns c = rw (take_all c.loop-i.i c.args.procs.now c.loop-i-test.false) at c.loop-i.invariant
