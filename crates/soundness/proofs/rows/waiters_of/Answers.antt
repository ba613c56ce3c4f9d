-- `soundness::rows::waiters_of` meets its contract: the first i rows are laid out, seen and told. Assumes nothing.
use Rattle.std.proofs.Common.{rules, ◌∙◌, ◌<◌, ◌≡◌, arith, add-one, get_or, take, sym}
use mathlib.Core.Bool.{and-false}
use Rattle.std.proofs.Math.Seq.{take-suc, length-take-le}
use Rattle.locks.specs.declared.rows.Row.{Row}
use Rattle.locks.specs.Cells.{Tells}
use Rattle.locks.proofs.Telling.{rows-shows}
use Rattle.soundness.proofs.Waiting.{blank, first_of, watched_none, watched-holds, watched-waits, first-new, stands-held, stands-waits, stands-free, not-apart}
use Rattle.soundness.proofs.rows.waiters_of.Goals as goal
use Rattle.soundness.proofs.rows.waiters_of.Goals.{then-seen-first+in-Waits, then-seen-first+in-Free, else-seen-first}

pub loop-i-init : goal.loop-i-init
loop-i-init c = watched_none

pub loop-i-preserved : goal.loop-i-preserved
loop-i-preserved c =
    let i = c.loop-i.i in
    let rows = c.args.rows.now in
    let r : Row = get_or rows i blank in
    let n = length-take-le i rows (omega arith) in
    let p = c.loop-i.invariant in
    let t : Tells c.in_ok-c.c r = c.in_ok-c.ensures.1 in
    let f = c.in_ok-c.ensures.0 in
    let a = c.append.ensures (take i rows) r p.laid n t in
    let b : first_of r < 256 = search rules in
    let e : c.from-first.result ≡ first_of r = search rules in
    rw (add-one i, take-suc rows i blank (omega arith))
    (elim c.if-seen-first.branch [
      | then-seen-first+in-Waits w ↦
          let s = w.stands.ensures (take i rows) r (rows-shows p.laid) n t in
          rw (w.owners-is, w.count-is, e) (watched-waits p r f a b (omega (arith, n)) (stands-waits (take i rows) r (sym s ∙ w.in-Waits.is)))
      | then-seen-first+in-Free w ↦
          let s = w.stands.ensures (take i rows) r (rows-shows p.laid) n t in
          rw (w.owners-is, w.count-is, e) (watched-holds p r f a b (stands-free (take i rows) r (sym s ∙ w.in-Free.is)))
      | else-seen-first w ↦ rw (w.owners-is, w.count-is, e) (watched-holds p r f a b (first-new p r f b (search rules)))
    ])

pub returns-in-Held : goal.returns-in-Held
returns-in-Held c =
    let i = c.loop-i.i in
    let rows = c.args.rows.now in
    let n = length-take-le i rows (omega arith) in
    let s = c.stands.ensures (take i rows) (get_or rows i blank) (rows-shows c.loop-i.invariant.laid) n c.in_ok-c.ensures.1 in
    rw (not-apart rows i blank (omega arith) (stands-held (take i rows) (get_or rows i blank) (sym s ∙ c.in-Held.is)), and-false)
