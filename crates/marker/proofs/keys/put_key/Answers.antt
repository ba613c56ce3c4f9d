-- `marker::keys::put_key` meets its contract. Assumes nothing.
use Prim.Native.Nat.{◌+◌, ◌-◌, ◌*◌, ◌≤◌}
use mathlib.Core.Path.{◌≡◌}
use mathlib.Core.List.{◌++◌}
use native.Mathlib.Omega.{arith}
use lib.ListN.{length, drop, length-append, length-drop}
use Rattle.rules.specs.State.{laid, fresh}
use Rattle.papers.specs.Events.{events_from}
use Rattle.papers.proofs.Sheets.{header-long}
use Rattle.rules.specs.Play.{answers_from}
use Rattle.marker.proofs.Places.{answers-count, answers-long}
use Rattle.marker.proofs.Turns.{key-put}
use Rattle.marker.proofs.keys.put_key.Goals as goal

pub returns : goal.returns
returns c =
    let a = c.args in
    let h = c.header-head in
    let l : length h.result ≡ 6 = rw h.ensures (header-long a.n) in
    let k = rw (answers-count (laid fresh) a.p.now 12 a.n) at (answers-long (answers_from (laid fresh) (events_from a.p.now 12 a.n))) in
    let o = c.copy_from_slice.new.self ++ drop 6 a.out.now in
    let e : o ≡ h.result ++ drop 6 a.out.now = rw c.copy_from_slice.ensures.after in
    let m : length o ≡ 6 + (length a.out.now - 6) = rw (e, length-append, l, length-drop) in
    let room : 6 + 16 * a.n ≤ length o = omega (arith, c.requires, m) in
    rw (← h.ensures) (key-put a.out.now o h.result _ c.put_answers.new.out (16 * a.n) e l k room c.put_answers.ensures)
