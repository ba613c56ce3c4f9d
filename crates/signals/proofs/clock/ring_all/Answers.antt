use Prim.Native.Nat.{◌<◌}
use native.Mathlib.Omega.{arith}
use mathlib.Core.Path.{refl}
use Rattle.places.proofs.Laying.{housed}
use Rattle.signals.proofs.Comparing.{before-get, before-live}
use Rattle.signals.proofs.Ringing.{rang, rang-all, rang-first, rang-gone, ringing}
use Rattle.signals.proofs.clock.ring_all.Goals as goal
use Rattle.signals.proofs.clock.ring_all.Goals.{in-Some, in_default}

pub loop-past-init : goal.loop-past-init
loop-past-init c = ringing _ c.requires

pub find-requires : goal.find-requires
find-requires c = housed c.loop-past.invariant.house.lays.procs

pub ring-requires : goal.ring-requires
ring-requires c =
    let v = c.loop-past.invariant in
    let n = before-live c.args.before.now c.processes-past-items.ensures (omega arith) in
    let l : c.loop-past.past-index < c.args.before.now.live = omega arith in
    let k = c.in-Some.ensures in
    (v.house, k.0, rang-first v l (before-get c.args.before.now c.processes-past-items.ensures l) k.1 k.0)

pub loop-past-preserved : goal.loop-past-preserved
loop-past-preserved c =
    let v = c.loop-past.invariant in
    let n = before-live c.args.before.now c.processes-past-items.ensures (omega arith) in
    let l : c.loop-past.past-index < c.args.before.now.live = omega arith in
    let q = before-get c.args.before.now c.processes-past-items.ensures l in
    elim c.match-find.branch [
      | in-Some w ↦ rw w.arrays-is (rang v l q w.in-Some.ensures.1 w.ring.ensures)
      | in_default w ↦ rw w.arrays-is (rang-gone v l q w.in_default.ensures refl)
    ]

pub returns : goal.returns
returns c =
    let n = before-live c.args.before.now c.processes-past-items.ensures (omega arith) in
    rang-all c.loop-past.invariant (omega arith)
