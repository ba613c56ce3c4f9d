-- `calls::child::fshell` meets its contract. Assumes nothing.
use mathlib.Core.Path.{◌≡◌, refl}
use mathlib.Core.Bool.{true, false, ◌||◌}
use lib.Dec.{eqb, ltb}
use lib.ListN.{get_or}
use Rattle.places.specs.Places.{LIVE, NEXT}
use borrow.Author.Tests.{eq-eqb, ne_eqb, lt-ltb, le-ltb}
use Rattle.calls.proofs.Newborn.{fshell-bad, fshell-full, fshell-done}
use Rattle.calls.proofs.child.fshell.Goals as goal
use Rattle.calls.proofs.child.fshell.Goals.{then-d1-gt255-via-then-d1-gt255, then-d1-gt255-via-else-d1-gt255+then-d2-gt255, then-j-eq-PLACES-via-then-j-eq-PLACES, then-j-eq-PLACES-via-else-j-eq-PLACES+then-pid-eq-SPENT}

pub returns-then-d1-gt255 : goal.returns-then-d1-gt255
returns-then-d1-gt255 c =
    λ e t h1 h2 k.
    let d1 = c.args.d1 in
    let d2 = c.args.d2 in
    let bad : (ltb 255 d1 || ltb 255 d2) ≡ true =
    elim c.then-d1-gt255.branch [ then-d1-gt255-via-then-d1-gt255 w ↦ rw (lt-ltb _ _ w.if-d1-gt255.true) | then-d1-gt255-via-else-d1-gt255+then-d2-gt255 w ↦ rw (le-ltb _ _ w.if-d1-gt255.false, lt-ltb _ _ w.if-d2-gt255.true) ] in
    fshell-bad k e (rw (h1, h2) bad)

pub returns-then-j-eq-PLACES : goal.returns-then-j-eq-PLACES
returns-then-j-eq-PLACES c =
    λ e t h1 h2 k.
    let fits : (ltb 255 e.d1 || ltb 255 e.d2) ≡ false = rw (h1, h2, le-ltb _ _ c.if-d1-gt255.false, le-ltb _ _ c.if-d2-gt255.false) in
    let full : (eqb (get_or c.args.m.now LIVE 0) 16 || eqb (get_or c.args.m.now NEXT 0) 65536) ≡ true = elim c.then-j-eq-PLACES.branch [ then-j-eq-PLACES-via-then-j-eq-PLACES w ↦ rw (eq-eqb _ 16 w.if-j-eq-PLACES.true) | then-j-eq-PLACES-via-else-j-eq-PLACES+then-pid-eq-SPENT w ↦ rw (ne_eqb _ 16 w.if-j-eq-PLACES.false, eq-eqb _ 65536 w.if-pid-eq-SPENT.true) ] in
    fshell-full k e fits refl refl full

pub returns : goal.returns
returns c =
    λ e t h1 h2 k.
    let fits : (ltb 255 e.d1 || ltb 255 e.d2) ≡ false = rw (h1, h2, le-ltb _ _ c.if-d1-gt255.false, le-ltb _ _ c.if-d2-gt255.false) in
    fshell-done k e fits refl refl c.if-j-eq-PLACES.false c.if-pid-eq-SPENT.false c.set.ensures c.put_ids.ensures (rw (h1, h2) c.put_reactions.ensures) c.plain.ensures
