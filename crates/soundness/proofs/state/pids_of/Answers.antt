-- `soundness::state::pids_of` meets its contract: the PID at each place. Assumes nothing.
use Rattle.std.proofs.Common.{rules, ◌≡◌, ◌∙◌, ◌<◌, [], sym, length, get_or, arith}
use Rattle.std.proofs.Math.Seq.{ext_get_or}
use Rattle.std.proofs.lemmas.List.{length-map, get_or-map}
use Rattle.rules.specs.State.{pids, process, no_ids, rested}
use Rattle.rules.specs.declared.state.Process.{Process}
use Rattle.soundness.proofs.Lists.{from_fn_at}
use Rattle.soundness.proofs.state.pids_of.Goals as goal

-- what a read past the places' end would give
abbrev blank : Process
blank = process 0 no_ids no_ids 0 (record { reactions = []; pending = 0; traps = [] }) 0 rested

pub returns : goal.returns
returns c =
    let ps = c.args.s.procs in
    let ns = c.from_fn.result in
    let r = c.from_fn.ensures.items in
    let n : length ps ≡ 16 = search rules in
    let m : length ns ≡ 16 = r.long in
    ext_get_or 0 ns (pids ps) (rw length-map (m ∙ sym n))
    (λ i l.
    let k : i < length ps = omega arith in
    from_fn_at ns (λ j. (get_or ps j blank).pid) 0 (λ j y q h. (search rules, search rules)) 0 16 r.each i (omega arith) (omega arith) ∙ sym (get_or-map (λ p. p.pid) ps i blank 0 k))
