-- `locking::locking::is_granted` meets its contract. Assumes nothing.
use Rattle.locking.proofs.Waking.{lock-sleeper, other-sleeper}
use Rattle.locking.proofs.locking.is_granted.Goals as goal

pub returns-then-of-eq-FOR_LOCK : goal.returns-then-of-eq-FOR_LOCK
returns-then-of-eq-FOR_LOCK c = λ ps rows next l h y n.
    lock-sleeper rows l h c.of.ensures c.if-of-eq-FOR_LOCK.true c.of-then-of-eq-FOR_LOCK.ensures (c.is_waiting.ensures rows y n)

pub returns-else-of-eq-FOR_LOCK : goal.returns-else-of-eq-FOR_LOCK
returns-else-of-eq-FOR_LOCK c = λ ps rows next l h y n. other-sleeper rows l h c.of.ensures c.if-of-eq-FOR_LOCK.false
