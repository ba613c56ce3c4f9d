-- `calls::own::set_id` meets its contract. Assumes nothing.
use Prim.Native.Nat.{◌+◌, ◌*◌}
use mathlib.Core.Path.{◌≡◌, refl, sym, ◌∙◌}
use mathlib.Core.Bool.{false, cond, not, ◌&&◌}
use lib.Dec.{eqb}
use lib.ListN.{get_or}
use borrow.Author.Tests.{eq-eqb, ne_eqb}
use Rattle.rules.specs.Calls.{set_id, bad_ids}
use Rattle.rules.specs.Outcome.{badcall, priv}
use Rattle.places.specs.Places.{PLACE, USER}
use Rattle.calls.specs.Own.{field_at}
use Rattle.calls.proofs.Doing.{refuses, privileged-is}
use Rattle.calls.proofs.Ids.{set-done}
use Rattle.calls.proofs.own.set_id.Goals as goal
use Rattle.calls.proofs.own.set_id.Goals.{then-d2-eq3-2, else-d2-eq3-2, else-d2-eq3-via-then-d2-eq3+else-of-ne0, else-d2-eq3-via-else-d2-eq3}

pub returns-then-bad_ids : goal.returns-then-bad_ids
unfolding set_id
returns-then-bad_ids c =
    λ e h1 h2 h3.
    refuses badcall (λ p l. rw (h1, h2, h3, ← c.bad_ids.ensures, c.if-bad_ids.true) (refl, refl))

pub returns-then-of-ne0 : goal.returns-then-of-ne0
unfolding set_id
returns-then-of-ne0 c =
    λ e h1 h2 h3.
    refuses priv
    (λ p l. rw (h1, h2, h3, ← c.bad_ids.ensures, c.if-bad_ids.false, eq-eqb _ 3 c.if-d2-eq3.true, privileged-is l c.of.ensures, ne_eqb _ 0 c.if-of-ne0.true) (refl, refl))

pub returns : goal.returns
returns c =
    λ e h1 h2 h3.
    let a = c.args in
    let m = a.m.now in
    let user = get_or m (a.i * PLACE + USER) 0 in
    let fits : bad_ids e ≡ false = rw (h1, h2, h3) (sym c.bad_ids.ensures ∙ c.if-bad_ids.false) in
    let may : (eqb a.d2 3 && not (eqb user 0)) ≡ false =
    elim c.else-d2-eq3.branch [
      | else-d2-eq3-via-then-d2-eq3+else-of-ne0 w ↦ rw (← w.of.ensures, eq-eqb _ 0 w.if-of-ne0.false, eq-eqb _ 3 w.if-d2-eq3.true)
      | else-d2-eq3-via-else-d2-eq3 w ↦ rw (ne_eqb _ 3 w.if-d2-eq3.false)
    ] in
    let source : c.if-d2-eq3-2.id ≡ cond (eqb a.d2 3) a.d3 (get_or m (a.i * PLACE + field_at a.ids a.d2) 0) =
    elim c.if-d2-eq3-2.branch [
      | then-d2-eq3-2 w ↦ rw (eq-eqb _ 3 w.if-d2-eq3-2.true) w.id-is
      | else-d2-eq3-2 w ↦ rw (ne_eqb _ 3 w.if-d2-eq3-2.false, ← w.field.ensures) (w.id-is ∙ w.of-id.ensures)
    ] in
    set-done a.ids e c.if-d2-eq3-2.id fits (rw h2 may) (rw (h2, h3) source) (rw (h1, ← c.field-2.ensures) c.set.ensures) c.plain.ensures
