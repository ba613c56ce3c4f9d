-- `key::make_key` meets its contract. Assumes nothing.
use Rattle.std.proofs.Common.{arith}
use mathlib.Core.Path.{refl}
use lib.ListN.{length-take}
use Rattle.marker.proofs.Promises.{key-within}
use Rattle.key.proofs.make_key.Goals as goal

pub slice_bounds-save-end : goal.slice_bounds-save-end
slice_bounds-save-end g c =
    let h = key-within c.args.paper.now c.args.space.now c.in-Ok.n (rw (← c.in-Ok.ensures) refl) in
    omega arith

pub slice_bounds-save-end-in-Ok : goal.slice_bounds-save-end-in-Ok
slice_bounds-save-end-in-Ok g c = let h = slice_bounds-save-end g c in simp length-take (omega arith)
