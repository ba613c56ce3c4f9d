-- `soundness::process::zero_process` meets its contract: the default is zeros. Assumes nothing.
use Rattle.std.proofs.Common.{◌∙◌}
use mathlib.Core.Bool.{and_assoc}
use Rattle.locks.specs.Lists.{is_zero}
use Rattle.rules.specs.Sound.{zero_process}
use Rattle.soundness.proofs.Zeros.{default_zeros, equal_zeros, rest_order}
use Rattle.soundness.proofs.process.zero_process.Goals as goal

pub returns : goal.returns
unfolding zero_process
returns c =
    let p = c.args.p.now in
    let d = c.default.ensures in
    let s = d.1.1.1.1 in
    let r = s.1.1 in
    c.eq.ensures ∙ rw (
      d.0,
      d.1.0.0,
      d.1.0.1.0,
      d.1.0.1.1,
      d.1.1.0.0,
      d.1.1.0.1.0,
      d.1.1.0.1.1,
      d.1.1.1.0,
      default_zeros s.0.0,
      s.0.1.0,
      default_zeros s.0.1.1,
      s.1.0,
      r.0,
      r.1.0,
      r.1.1.0,
      r.1.1.1,
      equal_zeros 7 p.signals.reactions,
      equal_zeros 7 p.signals.traps,
      rest_order (is_zero p.rest.sleep),
    ) (simp and_assoc)
