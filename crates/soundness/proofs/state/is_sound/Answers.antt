-- `soundness::state::is_sound` meets its contract: the tests in the order of the code. Assumes nothing.
use Rattle.std.proofs.Common.{◌≡◌, ◌∙◌, true, ◌&&◌, take, drop, sym}
use mathlib.Core.Bool.{false≢true}
use Rattle.locks.specs.Lists.{all}
use Rattle.locks.specs.Rows.{zero_row}
use Rattle.rules.specs.State.{pids}
use Rattle.rules.specs.Sound.{pids_fit, zero_process}
use Rattle.soundness.proofs.Whole.{told}
use Rattle.soundness.proofs.state.is_sound.Goals as goal
use Rattle.soundness.proofs.state.is_sound.Goals.{then-pids_fit, else-pids_fit}

pub returns-then-not-counts_fit : goal.returns-then-not-counts_fit
returns-then-not-counts_fit c = rw (told c.args.s, ← c.counts_fit.ensures, c.if-not-counts_fit.true)

pub returns-then-are_unused : goal.returns-then-are_unused
returns-then-are_unused c =
    let s = c.args.s in
    let n = c.pids_of-ns.ensures in
    let p = c.split_at.ensures in
    let r = c.split_at-2.ensures in
    let first : (pids_fit (take s.live (pids s.procs)) s.next && (all zero_process (drop s.live s.procs) && all zero_row (drop s.table.used s.table.rows))) ≡ true = elim c.if-pids_fit.branch [
      | then-pids_fit w ↦ rw (← n, ← c.pids_fit.ensures, w.if-pids_fit.true, ← p.back, ← r.back, ← w.are_unused.ensures, ← w.value-is) c.if-are_unused.true
      | else-pids_fit w ↦ absurd (false≢true (sym w.if-pids_fit.false ∙ sym w.value-is ∙ c.if-are_unused.true))
    ] in
    rw (told s, ← c.counts_fit.ensures, c.if-not-counts_fit.false, first, ← n, ← p.front, ← r.front) c.are_sound.ensures

pub returns-else-are_unused : goal.returns-else-are_unused
returns-else-are_unused c =
    let s = c.args.s in
    let n = c.pids_of-ns.ensures in
    let p = c.split_at.ensures in
    let r = c.split_at-2.ensures in
    rw (told s, ← c.counts_fit.ensures, c.if-not-counts_fit.false, ← n, ← c.pids_fit.ensures, c.if-are_unused.false)
    (elim c.if-pids_fit.branch [
      | then-pids_fit w ↦ rw (w.if-pids_fit.true, ← p.back, ← r.back, ← w.are_unused.ensures, ← w.value-is, c.if-are_unused.false)
      | else-pids_fit w ↦ rw w.if-pids_fit.false
    ])
