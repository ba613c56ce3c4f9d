-- `papers::bytes::number` meets its contract. Assumes nothing.
use Rattle.papers.proofs.Numbers.{read16}
use Rattle.papers.proofs.bytes.number.Goals as goal

pub returns : goal.returns
returns c = rw (c.from_be_bytes.ensures, c.bytes_at.ensures) (read16 c.args.file.now c.args.at)
