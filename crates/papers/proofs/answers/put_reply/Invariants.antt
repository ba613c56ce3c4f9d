-- `papers::answers::put_reply` meets its contract. Assumes nothing.
use Rattle.std.proofs.Common.{◌≡◌, ◌*◌, ◌++◌, length, take, drop}
use Rattle.papers.specs.Answers.{reply_bytes}
use Rattle.papers.proofs.answers.put_reply.Given as goal

abbrev pub invariant-loop-k : goal.invariant-loop-k
invariant-loop-k l = (length l.out ≡ length l.initial.out) × (l.out ≡ reply_bytes (take l.k l.a) ++ drop (4 * l.k) l.initial.out)
