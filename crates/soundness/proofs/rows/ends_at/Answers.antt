-- `soundness::rows::ends_at` meets its contract: the bytes behind the first n are the number without its low ones. Assumes nothing.
use Rattle.std.proofs.Common.{rules, ◌≡◌, length, get_or}
use borrow.Author.Tests.{lt-ltb}
use Rattle.locks.specs.Words.{is_byte}
use Rattle.locks.proofs.Bytes.{all-at}
use Rattle.soundness.proofs.Words.{ends}
use Rattle.soundness.proofs.rows.ends_at.Goals as goal

pub returns-else-n-ge16 : goal.returns-else-n-ge16
returns-else-n-ge16 c =
    let x = c.args.bytes in
    let l : length x ≡ 16 = search rules in
    rw (c.from_le_bytes.ensures, c.from.ensures) (ends c.args.n x l (all-at is_byte x (λ i. lt-ltb (get_or x i 0) 256 (search rules))))
