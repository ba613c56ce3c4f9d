-- `marker::keys::put_answers` meets its contract. Assumes nothing.
use Rattle.std.proofs.Common.{◌≡◌, ◌*◌, ◌++◌, length, take, drop}
use Rattle.rules.specs.State.{laid, fresh}
use Rattle.model.specs.System.{state_of}
use Rattle.papers.specs.Bytes.{joined}
use Rattle.marker.proofs.Turns.{left}
use Rattle.marker.proofs.keys.put_answers.Given as goal

-- what is written, and what is left of the answers and of the buffer
abbrev pub invariant-loop-i : goal.invariant-loop-i
invariant-loop-i l =
    (length l.out ≡ length l.initial.out) × (drop (16 * l.i) l.out ≡ drop (16 * l.i) l.initial.out) × (joined (left (laid fresh) l.p l.n 0) ≡ take (16 * l.i) l.out ++ joined (left (state_of l.system) l.p l.n l.i))
