-- `locking::locking::row_of` meets its contract. Assumes nothing.
use Prim.Native.Nat.{◌+◌, ◌-◌}
use mathlib.Core.Bool.{cond}
use native.Mathlib.Omega.{arith}
use mathlib.Core.Path.{◌≡◌, sym}
use lib.ListN.{take, drop}
use Rattle.locks.specs.Cells.{SHARED}
use Rattle.locking.proofs.Sequences.{row-tells, worded, long-high}
use Rattle.locks.proofs.Bytes.{small_low, small-high, length-low}
use Rattle.locking.proofs.locking.row_of.Goals as goal
use Rattle.locking.proofs.locking.row_of.Goals.{else-shared, then-shared}

pub returns-then-n-lt8 : goal.returns-then-n-lt8
returns-then-n-lt8 c = λ p e a o bad.
    let x = c.args in
    let d : x.n - 8 ≡ 0 = omega arith in
    let k : c.if-shared.result ≡ x.n + cond x.shared SHARED 0 = elim c.if-shared.branch [ then-shared w ↦ rw w.if-shared.true w.result-is | else-shared w ↦ rw w.if-shared.false (omega (arith, w.result-is)) ] in
    row-tells p e x.shared a bad (sym o) k (c.first_bytes.ensures (take 8 e.seq) (small_low (worded a)) (length-low (worded a)) a.first) (rw d)

pub returns-else-n-lt8 : goal.returns-else-n-lt8
returns-else-n-lt8 c = λ p e a o bad.
    let x = c.args in
    let k : c.if-shared.result ≡ x.n + cond x.shared SHARED 0 = elim c.if-shared.branch [ then-shared w ↦ rw w.if-shared.true w.result-is | else-shared w ↦ rw w.if-shared.false (omega (arith, w.result-is)) ] in
    row-tells p e x.shared a bad (sym o) k (c.first_bytes.ensures (take 8 e.seq) (small_low (worded a)) (length-low (worded a)) a.first) (c.first_bytes-else-n-lt8.ensures (drop 8 e.seq) (small-high (worded a)) (long-high a) a.last)
