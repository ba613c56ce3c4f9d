-- `locking::locking::release` meets its contract. Assumes nothing.
use native.Mathlib.Omega.{arith}
use Rattle.locking.proofs.Unlocks.{left-count, left_laid, left-lost, left-woken}
use Rattle.locking.proofs.locking.release.Goals as goal

pub overflow_cast-arrays : goal.overflow_cast-arrays
overflow_cast-arrays c =
    let q = c.requires in
    record { fits = omega (arith, left-count q.0 c.take_out-left.ensures q.1.names) }

pub grant-requires : goal.grant-requires
grant-requires c = let q = c.requires in left_laid q.0 c.take_out-left.ensures q.1.names

pub returns : goal.returns
returns c = (
  c.grant.ensures.few,
  λ r y. record { lays = left-lost c.requires.0 c.take_out-left.ensures y c.grant.ensures; woken = left-woken c.requires.0 c.take_out-left.ensures y c.grant.ensures },
)
