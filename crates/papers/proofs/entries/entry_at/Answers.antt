-- `papers::entries::entry_at` meets its contract. Assumes nothing.
use Rattle.std.proofs.Common.{arith}
use Rattle.papers.specs.Entries.{entry_at}
use Rattle.papers.proofs.Numbers.{within16, within32}
use Rattle.papers.proofs.entries.entry_at.Goals as goal

pub returns : goal.returns
unfolding entry_at
returns c =
    let f = c.args.file.now in
    let at = c.args.at in
    rw (
      c.number.ensures,
      c.number-2.ensures,
      c.number-3.ensures,
      c.number-4.ensures,
      c.long_number.ensures,
      c.long_number-2.ensures,
      c.number-5.ensures,
      c.bytes_at-bytes.ensures,
      within16 f at 20 2 (omega arith),
      within16 f at 20 4 (omega arith),
      within16 f at 20 6 (omega arith),
      within16 f at 20 8 (omega arith),
      within32 f at 20 10 (omega arith),
      within32 f at 20 14 (omega arith),
      within16 f at 20 18 (omega arith),
    )
