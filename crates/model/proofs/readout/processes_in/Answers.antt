-- `model::readout::processes_in` meets its contract. Assumes nothing.
use native.Mathlib.Omega.{arith}
use mathlib.Core.Path.{◌≡◌, refl, ap, ◌∙◌}
use mathlib.Core.List.{List}
use lib.ListN.{set, replicate}
use lib.Seq.{take_all}
use Rattle.locks.specs.Lists.{padded}
use Rattle.rules.specs.State.{new_process, no_process}
use Rattle.rules.specs.declared.state.Process.{Process}
use Rattle.soundness.proofs.Zeros.{default_zeros}
use Rattle.places.specs.Places.{PLACES, procs_in}
use Rattle.model.proofs.Putting.{padded-next}
use Rattle.model.proofs.Readings.{process-here, procs-count}
use Rattle.model.proofs.readout.processes_in.Goals as goal

pub loop-i-init : goal.loop-i-init
unfolding padded no_process new_process
loop-i-init c =
    let d = c.default-procs.ensures in
    let s = d.1.1.1.1 in
    let r = s.1.1 in
    let e : c.default-procs.result ≡ no_process =
    λ j. record {
      pid = d.0 j;
      user = record { effective = d.1.0.0 j; login = d.1.0.1.0 j; program = d.1.0.1.1 j };
      group = record { effective = d.1.1.0.0 j; login = d.1.1.0.1.0 j; program = d.1.1.0.1.1 j };
      priority = d.1.1.1.0 j;
      signals = record { reactions = default_zeros s.0.0 j; pending = s.0.1.0 j; traps = default_zeros s.0.1.1 j };
      alarm = s.1.0 j;
      rest = record { sleep = r.0 j; wake = r.1.0 j; seconds = r.1.1.0 j; left = r.1.1.1 j };
    } in
    rw e refl

pub loop-i-preserved : goal.loop-i-preserved
loop-i-preserved c =
    let m = c.args.m.now in
    let l = c.loop-i in
    let a = c.loop-i-test.true in
    let b = c.requires.0 in
    let n = procs-count m in
    (ap (λ (x : List Process). set x l.i c.process_at.result) l.invariant ∙ padded-next (procs_in m) l.i no_process (omega (arith, a, n)) (c.process_at.ensures ∙ process-here m l.i a) PLACES no_process (omega (arith, a, b)))

pub returns : goal.returns
returns c =
    let m = c.args.m.now in
    let l = c.loop-i in
    let n = procs-count m in
    l.invariant ∙ ap (padded PLACES no_process) (take_all l.i (procs_in m) (omega (arith, n, c.loop-i-test.false)))
