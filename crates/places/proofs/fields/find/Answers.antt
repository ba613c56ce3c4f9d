use native.Mathlib.Omega.{arith}
use mathlib.Core.Path.{◌≡◌, ◌∙◌}
use lib.ListN.{get_or}
use Rattle.places.specs.Places.{LIVE}
use Rattle.places.proofs.Finding.{seek-start, seek-next, seek_found, seek-none}
use Rattle.places.proofs.fields.find.Goals as goal

pub loop-i-init : goal.loop-i-init
loop-i-init c = seek-start _ _

pub returns-then-of-pid : goal.returns-then-of-pid
returns-then-of-pid c =
    let l = c.loop-i-test.true in
    (l, seek_found c.loop-i.invariant c.requires l c.of.ensures c.if-of-pid.true)

pub loop-i-preserved : goal.loop-i-preserved
loop-i-preserved c = seek-next c.loop-i.invariant c.requires c.loop-i-test.true c.of.ensures c.if-of-pid.false

pub returns : goal.returns
returns c =
    let l = c.loop-i-test.false in
    let e : get_or c.args.m.now LIVE 0 ≡ c.loop-i.i = omega (arith, c.loop-i.invariant.inside) in
    e ∙ seek-none c.loop-i.invariant l
