-- `calls::child::put_ids` meets its contract. Assumes nothing.
use Rattle.std.proofs.Common.{ℕ, ◌≡◌, ◌+◌, ◌-◌, ◌*◌, ◌≤◌, ◌∙◌, ap, arith, drop, get_or, get_or-drop, length, length-drop}
use lib.Seq.{paste}
use Rattle.places.specs.Places.{PLACE, USER}
use Rattle.calls.specs.Making.{id_in}
use Rattle.calls.proofs.Making.{run-paste}
use Rattle.calls.proofs.child.put_ids.Goals as goal

pub returns : goal.returns
returns c =
    let a = c.args in
    let d = a.m.now in
    let ids = a.i * PLACE + USER in
    let seven : ids + 7 - ids ≡ 7 = omega arith in
    let b : 7 ≤ length (drop ids d) = simp length-drop (omega arith) in
    let read : (k : ℕ) → get_or (drop ids d) k 0 ≡ id_in d a.i k = λ k. get_or-drop ids d k 0 ∙ ap (λ (x : ℕ). get_or d x 0) (omega arith) in
    c.copy_within.ensures.after ∙ ap (paste d (a.j * PLACE + USER) (drop ids d)) seven ∙ run-paste d (drop ids d) USER (id_in d a.i) a.j 7 (omega arith) b (λ k l. read k)
