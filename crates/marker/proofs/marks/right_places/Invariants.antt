-- `marker::marks::right_places` meets its contract. Assumes nothing.
use Rattle.std.proofs.Common.{◌≡◌, ◌+◌, ◌-◌, ◌*◌, ◌≤◌}
use Rattle.rules.specs.State.{laid, fresh}
use Rattle.model.specs.System.{state_of}
use Rattle.papers.specs.Bytes.{sixteens_from}
use Rattle.marker.specs.Mark.{right_places}
use Rattle.marker.proofs.Turns.{left}
use Rattle.marker.proofs.marks.right_places.Given as goal

-- what is counted, and what is left of the two lists
abbrev pub invariant-loop-i : goal.invariant-loop-i
invariant-loop-i l =
    (l.right ≤ l.i) × (right_places (left (laid fresh) l.p l.n 0) (sixteens_from l.sheet 6 l.n) ≡ l.right + right_places (left (state_of l.system) l.p l.n l.i) (sixteens_from l.sheet (6 + 16 * l.i) (l.n - l.i)))
