-- `papers::bytes::padded_at` meets its contract: the first k bytes are the file's, and zeros stand behind them. Assumes nothing.
use Rattle.papers.proofs.Runs.{Filled}
use Rattle.papers.proofs.bytes.padded_at.Given as goal

abbrev pub invariant-loop-k : goal.invariant-loop-k
invariant-loop-k g l = Filled l.rest l.bytes g.row.N l.k
