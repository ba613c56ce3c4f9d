-- The modelled system as one value. Assumes nothing.
use Rattle.std.specs.Prelude.{ℕ, List}
use Rattle.rules.specs.declared.state.State.{State}
use Rattle.rules.specs.declared.state.Event.{Event}
use Rattle.turns.specs.Turn.{Turned, state_in}
use Rattle.model.specs.declared.system.System.{System}

-- the state that it holds
abbrev pub state_of : System → State
state_of s = state_in s.arrays.numbers s.arrays.cells

-- after the event e it holds the state that the rules give, and out is the answer
abbrev pub Plays : System → Event → List ℕ → System → Type 0
Plays before e out after = Turned before.arrays.numbers before.arrays.cells e out after.arrays.numbers after.arrays.cells
