-- `line::line` meets its contract. Assumes nothing.
use mathlib.Core.Path.{sym, ◌∙◌}
use Rattle.line.proofs.Puts.{then, printed}
use Rattle.line.specs.Line.{line_of}
use Rattle.line.proofs.line.Goals as goal

pub returns-in-Err : goal.returns-in-Err
unfolding line_of
returns-in-Err c = rw c.in-Err.is c.refused.ensures

pub returns-then-perfect : goal.returns-then-perfect
unfolding line_of
returns-then-perfect c =
    let t = sym c.perfect.ensures ∙ c.if-perfect.true in
    rw (c.in-Ok.is, t) (printed (then c.put_numbers-at.ensures.put c.put.ensures))

pub returns-else-perfect : goal.returns-else-perfect
unfolding line_of
returns-else-perfect c =
    let t = sym c.perfect.ensures ∙ c.if-perfect.false in
    rw (c.in-Ok.is, t) (printed (then c.put_numbers-at.ensures.put c.put-else-perfect.ensures))
