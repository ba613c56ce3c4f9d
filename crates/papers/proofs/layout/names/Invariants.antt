-- `papers::layout::names` meets its contract. Assumes nothing.
use Rattle.std.proofs.Common.{◌≡◌, ◌+◌, ◌-◌, ◌*◌}
use Rattle.papers.specs.Fields.{first_broken, name_rules}
use Rattle.papers.proofs.layout.names.Given as goal

abbrev pub invariant-loop-i : goal.invariant-loop-i
invariant-loop-i l = first_broken l.p (name_rules l.p 12 l.n) ≡ first_broken l.p (name_rules l.p (12 + 20 * l.i) (l.n - l.i))
