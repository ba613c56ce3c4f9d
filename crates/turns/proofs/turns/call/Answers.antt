-- `turns::turns::call` meets its contract. Assumes nothing.
use Rattle.std.proofs.Common.{refl}
use Rattle.rules.specs.Calls.{of_class}
use Rattle.rules.specs.Outcome.{badcall, notmodelled}
use Rattle.places.specs.Settled.{asker}
use Rattle.places.proofs.Settling.{settled-refused}
use Rattle.turns.proofs.Acting.{AsksCall, act-class, asks-indirect, asks-plain}
use Rattle.turns.proofs.turns.call.Goals as goal
use Rattle.turns.proofs.turns.call.Goals.{else-e-eq-INDIRECT, then-e-eq-INDIRECT}

pub returns-in-Modelled : goal.returns-in-Modelled
unfolding of_class
returns-in-Modelled c =
    let x = c.args in
    let a : AsksCall x.e _ = elim c.if-e-eq-INDIRECT.branch [ then-e-eq-INDIRECT w ↦ asks-indirect x.e w.if-e-eq-INDIRECT.true w.number-is | else-e-eq-INDIRECT w ↦ asks-plain x.e w.if-e-eq-INDIRECT.false w.number-is ] in
    act-class (asker x.arrays.now x.i) x.e a c.in-Modelled.ensures c.do_call.ensures

pub returns-in-NotModelled : goal.returns-in-NotModelled
unfolding of_class
returns-in-NotModelled c =
    let x = c.args in
    let a : AsksCall x.e _ = elim c.if-e-eq-INDIRECT.branch [ then-e-eq-INDIRECT w ↦ asks-indirect x.e w.if-e-eq-INDIRECT.true w.number-is | else-e-eq-INDIRECT w ↦ asks-plain x.e w.if-e-eq-INDIRECT.false w.number-is ] in
    act-class (asker x.arrays.now x.i) x.e a c.in-NotModelled.ensures (settled-refused notmodelled c.requires.laid.lays refl)

pub returns-in-BadCall : goal.returns-in-BadCall
unfolding of_class
returns-in-BadCall c =
    let x = c.args in
    let a : AsksCall x.e _ = elim c.if-e-eq-INDIRECT.branch [ then-e-eq-INDIRECT w ↦ asks-indirect x.e w.if-e-eq-INDIRECT.true w.number-is | else-e-eq-INDIRECT w ↦ asks-plain x.e w.if-e-eq-INDIRECT.false w.number-is ] in
    act-class (asker x.arrays.now x.i) x.e a c.in-BadCall.ensures (settled-refused badcall c.requires.laid.lays refl)
