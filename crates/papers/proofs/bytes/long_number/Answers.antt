-- `papers::bytes::long_number` meets its contract. Assumes nothing.
use Rattle.papers.proofs.Numbers.{read32}
use Rattle.papers.proofs.bytes.long_number.Goals as goal

pub returns : goal.returns
returns c = rw (c.from_be_bytes.ensures, c.bytes_at.ensures) (read32 c.args.file.now c.args.at)
