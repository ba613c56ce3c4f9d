-- The user ids and the group ids of a process, by their kind. Assumes nothing.
use Rattle.std.specs.Prelude.{ℕ, ◌+◌, Bool, not, ◌&&◌, ◌||◌, eqb, ltb}
use Rattle.locks.specs.Lists.{between}
use Rattle.rules.specs.State.{with_user, with_group}
use Rattle.rules.specs.Outcome.{Outcome}
use Rattle.rules.specs.Calls.{get_id, set_id}
use Rattle.rules.specs.declared.state.Process.{Process}
use Rattle.rules.specs.declared.state.Ids.{Ids}
use Rattle.rules.specs.declared.state.Event.{Event}
use Rattle.places.specs.Places.{USER, GROUP}
use Rattle.calls.specs.declared.own.IdKind.{IdKind}
use Rattle.calls.specs.declared.own.IdKind.TheVariants.{User, Group}

-- where the id of that code stands
abbrev pub field_at : IdKind → ℕ → ℕ
field_at User code = USER + code
field_at Group code = GROUP + code

abbrev pub ids_at : IdKind → Process → Ids
ids_at User p = p.user
ids_at Group p = p.group

abbrev pub with_at : IdKind → Ids → Process → Process
with_at User i p = with_user i p
with_at Group i p = with_group i p

abbrev pub get_id_at : IdKind → Process → Event → Outcome Process
get_id_at ids p e = get_id (ids_at ids p) p e

abbrev pub set_id_at : IdKind → Process → Event → Outcome Process
set_id_at ids p e = set_id (with_at ids) (ids_at ids p) p e

-- what `bad_ids` of the rules says, of the registers
abbrev pub wrong_ids : ℕ → ℕ → ℕ → Bool
wrong_ids d1 d2 d3 = ltb 2 d1 || ltb 3 d2 || (eqb d2 3 && ltb 65535 d3)

-- not "1, 2, 4, 5, 6 or 7", as `set_signal` of the rules says
abbrev pub wrong_signal : ℕ → Bool
wrong_signal d2 = not (between 1 7 d2) || eqb d2 3
