-- `marker::marks::right_places` meets its contract. Assumes nothing.
use Prim.Native.Nat.{◌+◌, ◌-◌, ◌*◌}
use mathlib.Core.Path.{◌≡◌, sym, ◌∙◌, ap}
use mathlib.Core.Bool.{cond}
use mathlib.Core.List.{map}
use native.Mathlib.Nat.{zero-add, add-zero}
use native.Mathlib.Omega.{arith}
use Rattle.rules.specs.Play.{answers_from}
use Rattle.turns.specs.Turn.{state_in}
use Rattle.papers.specs.Bytes.{sixteens_from}
use Rattle.papers.specs.Events.{events_from}
use Rattle.papers.specs.Answers.{answer_bytes}
use Rattle.marker.specs.Mark.{right_places}
use Rattle.marker.proofs.Turns.{left, left-played, sheet-one}
use Prim.Native.Nat.{ℕ, ◌<◌}
use mathlib.Core.List.{List}
use mathlib.Core.Bool.{Bool}
use Rattle.rules.specs.declared.state.Event.{Event}
use Rattle.locks.specs.Lists.{agree}
use Rattle.papers.specs.Bytes.{run}
use Rattle.papers.specs.Answers.{reply_bytes}
use Rattle.papers.specs.Events.{event_at}
use Rattle.turns.specs.Turn.{Turned}
use Rattle.marker.proofs.marks.right_places.Goals as goal
use Rattle.marker.proofs.marks.right_places.Goals.{else-stands_at, then-stands_at}

-- in a turn: the place at hand, and what is left after it
turn : (p sheet : List ℕ) (n i : ℕ) {m t out after rows : List ℕ} {e : Event} {b : Bool} → i < n → e ≡ event_at p (12 + 20 * i) → Turned m t e out after rows
    → b ≡ agree 16 (reply_bytes out) (run sheet (6 + 16 * i) 16)
    → right_places (left (state_in m t) p n i) (sixteens_from sheet (6 + 16 * i) (n - i))
    ≡ cond b 1 0 + right_places (left (state_in after rows) p n (i + 1)) (sixteens_from sheet (6 + 16 * (i + 1)) (n - (i + 1)))
turn p sheet n i l e u h = rw (left-played p n i l e u, sheet-one sheet n i l, h)

pub loop-i-init : goal.loop-i-init
loop-i-init c =
    let a = c.args in
    let z : a.n - 0 ≡ a.n = omega arith in
    (omega arith, rw (zero-add, z) (ap (λ s. right_places (map answer_bytes (answers_from s (events_from a.p.now 12 a.n))) (sixteens_from a.sheet.now 6 a.n)) (sym c.fresh-system.ensures)))

pub loop-i-preserved : goal.loop-i-preserved
loop-i-preserved c =
    let l = c.loop-i in
    let e = l.invariant.1 ∙ ap (λ x. l.right + x) (turn c.args.p.now c.args.sheet.now c.args.n l.i c.loop-i-test.true c.event.ensures c.turn-answer.ensures c.stands_at.ensures) in (
      elim c.if-stands_at.branch [ then-stands_at w ↦ omega arith | else-stands_at w ↦ omega arith ],
      elim c.if-stands_at.branch [ then-stands_at w ↦ let t = rw w.if-stands_at.true at e in omega arith | else-stands_at w ↦ let t = rw w.if-stands_at.false at e in omega arith ],
    )

pub returns : goal.returns
returns c =
    let l = c.loop-i in
    let n = c.args.n in
    let e : n - l.i ≡ 0 = omega arith in
    let z : n - 0 ≡ n = omega arith in
    sym (rw z at l.invariant.1 ∙ rw (e, add-zero))
