-- `papers::events::sequence` meets its contract. Assumes nothing.
use Rattle.papers.specs.Events.{sequence_of}
use Rattle.papers.proofs.Runs.{sequence-at}
use Rattle.papers.proofs.events.sequence.Goals as goal

pub returns-then-n-eq0 : goal.returns-then-n-eq0
unfolding sequence_of
returns-then-n-eq0 c = rw c.if-n-eq0.true

pub returns : goal.returns
returns c = rw (sequence-at c.args.p.now c.args.n c.if-n-eq0.false, ← c.number-from.ensures) c.bytes_at.ensures
