-- `papers::answers::stands` meets its contract. Assumes nothing.
use Rattle.std.proofs.Common.{◌≡◌, ◌*◌}
use Rattle.locks.specs.Lists.{agree}
use Rattle.papers.specs.Answers.{reply_bytes}
use Rattle.papers.proofs.answers.stands.Given as goal

abbrev pub invariant-loop-k : goal.invariant-loop-k
invariant-loop-k l = l.same ≡ agree (4 * l.k) (reply_bytes l.a) l.bytes
