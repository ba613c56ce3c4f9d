-- `model::steps::System::of` meets its contract. Assumes nothing.
use Rattle.std.proofs.Common.{sym}
use Rattle.model.proofs.Readings.{held-state}
use Rattle.model.proofs.system.System.of.Goals as goal

pub invariant_of-result : goal.invariant_of-result
invariant_of-result c =
    let l = c.lay_out-arrays.ensures in
    record { holds = (held-state c.args.s (sym c.if-not-is_sound.ensures) l.0 l.1).0 }

pub returns : goal.returns
returns c =
    let l = c.lay_out-arrays.ensures in
    let h = sym c.if-not-is_sound.ensures in
    (h, (held-state c.args.s h l.0 l.1).1)
