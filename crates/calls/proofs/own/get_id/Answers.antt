-- `calls::own::get_id` meets its contract. Assumes nothing.
use mathlib.Core.Path.{refl}
use borrow.Author.Tests.{lt-ltb}
use Rattle.rules.specs.Calls.{get_id}
use Rattle.rules.specs.Outcome.{badcall}
use Rattle.calls.proofs.Doing.{refuses}
use Rattle.calls.proofs.Ids.{get-done}
use Rattle.calls.proofs.own.get_id.Goals as goal

pub returns-then-d2-gt2 : goal.returns-then-d2-gt2
unfolding get_id
returns-then-d2-gt2 c = λ e h. refuses badcall (λ p l. rw (h, lt-ltb _ _ c.if-d2-gt2.true) (refl, refl))

pub returns : goal.returns
returns c =
    λ e h.
    get-done c.args.ids e (rw h c.if-d2-gt2.false) (rw (h, ← c.field.ensures) c.of.ensures) c.plain.ensures
