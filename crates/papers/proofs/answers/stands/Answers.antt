-- `papers::answers::stands` meets its contract. Assumes nothing.
use Rattle.std.proofs.Common.{◌≡◌, sym, refl, arith}
use Rattle.locks.specs.Lists.{agree}
use Rattle.papers.proofs.Replies.{agree-next}
use Rattle.papers.proofs.answers.stands.Goals as goal

pub loop-k-init : goal.loop-k-init
unfolding agree
loop-k-init c = refl

pub loop-k-preserved : goal.loop-k-preserved
loop-k-preserved c =
    let l = c.loop-k in
    let a = c.args in
    rw (l.invariant, c.long_number.ensures) (sym (agree-next a.a.now a.bytes.now l.k (omega arith) c.fits-bytes))

pub returns : goal.returns
returns c =
    let l = c.loop-k in
    let e : l.k ≡ 4 = omega arith in
    rw e at l.invariant
