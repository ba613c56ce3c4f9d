-- `locking::locking::may_wait` meets its contract. Assumes nothing.
use mathlib.Core.Path.{sym, ◌∙◌}
use Rattle.locking.specs.Queued.MayNot.{dead, full}
use Rattle.locking.proofs.Lockings.{leads-exact}
use Rattle.locking.proofs.locking.may_wait.Goals as goal

pub returns-then-leads_back : goal.returns-then-leads_back
returns-then-leads_back c = λ rows r h e. dead (sym (leads-exact rows r (c.leads_back.ensures rows r h e)) ∙ c.if-leads_back.true)

pub returns-then-last-eq-ROWS : goal.returns-then-last-eq-ROWS
returns-then-last-eq-ROWS c = λ rows r h e. full (sym (leads-exact rows r (c.leads_back.ensures rows r h e)) ∙ c.if-leads_back.false) (e ∙ c.if-last-eq-ROWS.true)

pub returns : goal.returns
returns c = λ rows r h e. (sym (leads-exact rows r (c.leads_back.ensures rows r h e)) ∙ c.if-leads_back.false, λ k. c.if-last-eq-ROWS.false (sym e ∙ k))
