-- `cases::reading::Line::skip_spaces` ends. Assumes nothing.
use Rattle.std.proofs.Common.{length}
use Rattle.cases.proofs.reading.Line.skip_spaces.Given as goal

abbrev pub decreases-loop-self : goal.decreases-loop-self
decreases-loop-self l = length l.self.rest.now
