-- Each read gives the bytes that come next. Assumes nothing.
use Rattle.std.proofs.Common.{rules}
use Rattle.std.proofs.KnownBytes.{Consumes-trans}
use Rattle.files.proofs.Reading.{take_read}
use Rattle.files.proofs.fill.Goals as goal

pub loop-done-preserved : goal.loop-done-preserved
loop-done-preserved g c =
    let inv = c.loop-done.invariant in
    let e = take_read c.loop-done.buf c.read.new.buf c.loop-done.done c.in_ok-n.n inv.0 c.in_ok-n.ensures.bound.0 in
    (search rules, rw e (Consumes-trans _ (g.R.Read.remaining c.loop-done.input) _ _ _ inv.1 c.in_ok-n.ensures.bytes.0))
