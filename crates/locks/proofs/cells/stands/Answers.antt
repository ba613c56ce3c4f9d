-- `cells::stands` meets its contract: none of the first i rows is a twin, and standing says whether one conflicts. Assumes nothing.
use mathlib.Core.Path.{◌≡◌, sym, ap, ◌∙◌}
use mathlib.Core.Bool.{Bool, false, true, cond}
use native.Mathlib.Omega.{arith}
use lib.ListN.{length, get_or}
use lib.Seq.{take_all, take-length}
use Rattle.locks.specs.Lists.{any}
use Rattle.locks.specs.Rows.{no_row, twin, has_twin, conflict, waits, standing_of}
use Rattle.locks.specs.declared.rows.Standing.TheVariants.{Waits, Free}
use Rattle.locks.proofs.Loops.{some_next, same_next, none-next, found}
use Rattle.locks.proofs.Telling.{walk, tells_row, tells-owner, twin-here, no-twin-here, no-sequence, by-sequence, calm-shared}
use Rattle.locks.proofs.cells.stands.Goals as goal
use Rattle.locks.proofs.cells.stands.Goals.{then-same_sequence+else-x-c+then-x-lt-SHARED, then-x-lt-SHARED-via-then-x-lt-SHARED, then-x-lt-SHARED-via-else-x-lt-SHARED+then-c-lt-SHARED, then-same_sequence+else-x-c+else-x-lt-SHARED+else-c-lt-SHARED, else-same_sequence}

told : {a b : Bool} → a ≡ b → cond a Waits Free ≡ cond b Waits Free
told = ap (λ a. cond a Waits Free)

pub returns-then-x-c : goal.returns-then-x-c
unfolding standing_of has_twin
returns-then-x-c c =
    let i = c.loop-i.i in
    λ rows r l e x.
    let y = tells_row l i c.cell_at-x.ensures (omega (arith, e)) in
    let h : any (twin r) rows ≡ true =
    ap (any (twin r)) (sym (take-length rows)) ∙ found (walk rows {n = length rows} (omega arith) (omega (arith, e))) (twin r) no_row (omega (arith, e)) (sym (twin-here y r (tells-owner x) c.if-x-c.true x c.same_sequence.ensures) ∙ c.if-same_sequence.true) in
    rw h

pub loop-i-preserved : goal.loop-i-preserved
loop-i-preserved c =
    let a = c.args in
    let i = c.loop-i.i in
    λ rows r l e x.
    let q = get_or rows i no_row in
    let y = tells_row l i c.cell_at-x.ensures (omega (arith, e)) in
    let k = walk rows {n = length rows} {i = i} (omega arith) (omega (arith, e)) in
    let v = c.loop-i.invariant rows r l e x in
    let h = c.same_sequence.ensures r q x y in
    let less = none-next k (twin r) no_row (omega (arith, e)) v.0 in
    elim c.if-same_sequence.branch [
      | then-same_sequence+else-x-c+then-x-lt-SHARED w ↦ (
        less (no-twin-here y r (tells-owner x) w.if-x-c.false),
        w.standing-is ∙ sym (told (some_next k (conflict r) no_row (omega (arith, e)) (by-sequence x y (λ f. w.if-x-c.false (sym f)) (λ f g.
            elim w.then-x-lt-SHARED.branch [ then-x-lt-SHARED-via-then-x-lt-SHARED u ↦ omega arith | then-x-lt-SHARED-via-else-x-lt-SHARED+then-c-lt-SHARED u ↦ omega arith ]) ∙ sym h ∙ w.if-same_sequence.true))),
      )
      | then-same_sequence+else-x-c+else-x-lt-SHARED+else-c-lt-SHARED w ↦ (less (no-twin-here y r (tells-owner x) w.if-x-c.false), w.standing-is ∙ v.1 ∙ sym (told (same_next k (conflict r) no_row (omega (arith, e)) (calm-shared x y (omega arith) (omega arith)))))
      | else-same_sequence w ↦ let n = no-sequence x y (sym h ∙ w.if-same_sequence.false) in (less n.0, w.standing-is ∙ v.1 ∙ sym (told (same_next k (conflict r) no_row (omega (arith, e)) n.1)))
    ]

pub returns : goal.returns
unfolding standing_of has_twin waits
returns c =
    λ rows r l e x.
    let s = c.loop-i in
    let v = s.invariant rows r l e x in
    let a = take_all s.i rows (omega (arith, e)) in
    let h : any (twin r) rows ≡ false = rw a at v.0 in
    let w = rw a at v.1 in
    rw (h, w)
