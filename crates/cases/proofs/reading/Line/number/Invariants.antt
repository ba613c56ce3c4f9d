-- `cases::reading::Line::number` ends. Assumes nothing.
use Rattle.std.proofs.Common.{length}
use Rattle.cases.proofs.reading.Line.number.Given as goal

abbrev pub decreases-loop-d : goal.decreases-loop-d
decreases-loop-d l = length l.self.rest.now
