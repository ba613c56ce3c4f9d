-- `locking::locking::queue` meets its contract. Assumes nothing.
use mathlib.Core.Path.{sym}
use Rattle.places.specs.Settled.{shown}
use Rattle.locks.proofs.Telling.{rows-shows}
use Rattle.locking.proofs.Lockings.{laid-rows, queue-done, queue-not}
use Rattle.locking.proofs.locking.queue.Goals as goal

pub returns-in-Err : goal.returns-in-Err
returns-in-Err c = λ r y.
    let q = c.requires.0 in
    let n = sym (laid-rows q.laid c.requires.1) in
    let rows = (shown c.args.arrays.now).rows in
    let a = c.append.ensures rows r q.laid.lays.rows n y in
    queue-not q r (c.in-Err.ensures rows r (rows-shows a) n) (c.drop_last.ensures rows r a n)

pub returns : goal.returns
returns c = λ r y.
    let q = c.requires.0 in
    let n = sym (laid-rows q.laid c.requires.1) in
    let rows = (shown c.args.arrays.now).rows in
    let a = c.append.ensures rows r q.laid.lays.rows n y in
    let m = c.in_default.ensures rows r (rows-shows a) n in
    queue-done q c.requires.1 r m.0 m.1 a c.set.ensures c.set-2.ensures c.plain.ensures
