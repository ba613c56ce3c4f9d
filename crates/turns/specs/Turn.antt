-- One event on the arrays. Assumes nothing.
use Rattle.std.specs.Prelude.{ℕ, ◌≡◌, true, List}
use Rattle.rules.specs.State.{laid}
use Rattle.rules.specs.Sound.{sound}
use Rattle.rules.specs.Step.{step_of}
use Rattle.rules.specs.declared.state.State.{State}
use Rattle.rules.specs.declared.state.Event.{Event}
use Rattle.places.specs.Places.{Laid, machine}
use Rattle.rules.specs.Reply.{four_of}

-- the state that the arrays hold
unfoldable pub state_in : List ℕ → List ℕ → State
state_in m t = laid (machine m t)

-- they are a sound state laid out
pub record Holds (m t : List ℕ) : Type 0 where
  pub laid : Laid m t
  pub sound : sound (state_in m t) ≡ true

-- after the event e they hold the state that the rules give, and out is the answer
pub record Turned (m t : List ℕ) (e : Event) (out after rows : List ℕ) : Type 0 where
  pub holds : Holds after rows
  pub state : state_in after rows ≡ (step_of (state_in m t) e).state
  pub answer : out ≡ four_of (step_of (state_in m t) e).answer
