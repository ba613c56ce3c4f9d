-- The words in which the worked cases are told: events, answers, and what a case is. Assumes nothing.
use Rattle.std.specs.Prelude.{ℕ, suc, zero, ◌+◌, Bool, true, false, List, [], ◌∷◌, ◌++◌, map, length, replicate}
use Prim.Native.String.{String}
use Rattle.locks.specs.Lists.{padded}
use Rattle.rules.specs.State.{Machine, view, laid, fresh}
use Rattle.rules.specs.Step.{step_of}
use Rattle.rules.specs.declared.state.State.{State}
use Rattle.rules.specs.declared.state.Event.{Event}
use Rattle.rules.specs.declared.state.Answer.{Answer}

-- ---- events

-- kind, call, caller, D0, D1, D2, D3, A0
abbrev pub event : ℕ → ℕ → ℕ → ℕ → ℕ → ℕ → ℕ → ℕ → Event
event kind call caller d0 d1 d2 d3 a0 =
    record { kind = kind; call = call; caller = caller; d0 = d0; d1 = d1; d2 = d2; d3 = d3; a0 = a0; named = false; seq = replicate 16 0 }

-- call, caller, D1, D2, D3, A0
abbrev pub call : ℕ → ℕ → ℕ → ℕ → ℕ → ℕ → Event
call n who d1 d2 d3 a0 = event 1 n who 0 d1 d2 d3 a0

-- a call on the first n bytes of a sequence
abbrev pub named : ℕ → ℕ → ℕ → ℕ → List ℕ → Event
named n who d2 d3 s =
    record { kind = 1; call = n; caller = who; d0 = 0; d1 = 0; d2 = d2; d3 = d3; a0 = 0; named = true; seq = padded 16 0 s }

abbrev pub lock : ℕ → ℕ → List ℕ → Event
lock who d2 s = named 0x3E who d2 (length s) s

abbrev pub unlock : ℕ → List ℕ → Event
unlock who s = named 0x3F who 0 (length s) s

abbrev pub tick : Event
tick = event 2 0 0 0 0 0 0 0

abbrev pub take_trap : ℕ → Event
take_trap who = event 3 0 who 0 0 0 0 0

abbrev pub wake_report : ℕ → Event
wake_report who = event 4 0 who 0 0 0 0 0

-- on signal s: 0 abort, 1 ignore, else trap there
abbrev pub on_signal : ℕ → ℕ → ℕ → Event
on_signal who s a = call 0x40 who 0 s 0 a

abbrev pub on_alarm : ℕ → ℕ → Event
on_alarm who a = on_signal who 5 a

-- the signal is sent to the target
abbrev pub kill : ℕ → ℕ → ℕ → Event
kill who s target = call 0x41 who 0 s target 0

abbrev pub alarm : ℕ → ℕ → Event
alarm who seconds = call 0x43 who 0 0 seconds 0

abbrev pub sleep : ℕ → ℕ → Event
sleep who seconds = call 0x42 who 0 0 seconds 0

abbrev pub pause : ℕ → Event
pause who = call 0x44 who 0 0 0 0

abbrev pub fshell : ℕ → ℕ → ℕ → Event
fshell who d1 d2 = call 0x48 who d1 d2 0 0

abbrev pub set_priority : ℕ → ℕ → Event
set_priority who n = call 0x39 who 0 0 n 0

-- the effective user id becomes n
abbrev pub becomes : ℕ → ℕ → Event
becomes who n = call 0x35 who 0 3 n 0

-- the same call by way of the indirect call
abbrev pub indirectly : Event → Event
indirectly e =
    record { kind = e.kind; call = 0x51; caller = e.caller; d0 = e.call; d1 = e.d1; d2 = e.d2; d3 = e.d3; a0 = e.a0; named = e.named; seq = e.seq }

-- with other numbers in the registers that lock and unlock do not name
abbrev pub stuffed : Event → Event
stuffed e =
    record { kind = e.kind; call = e.call; caller = e.caller; d0 = 9; d1 = 9; d2 = e.d2; d3 = e.d3; a0 = 9; named = e.named; seq = e.seq }

-- ---- answers

abbrev pub gives : ℕ → ℕ → Answer
gives d3 a0 = record { kind = 0; number = 0; woken = 0; ended = 0; d3 = d3; a0 = a0 }

abbrev pub ok : Answer
ok = gives 0 0

abbrev pub sleeping : Answer
sleeping = record { kind = 1; number = 0; woken = 0; ended = 0; d3 = 0; a0 = 0 }

-- done, with these masks
abbrev pub moves : ℕ → ℕ → Answer
moves woken ended = record { kind = 0; number = 0; woken = woken; ended = ended; d3 = 0; a0 = 0 }

-- the caller ended, with these masks
abbrev pub ending : ℕ → ℕ → Answer
ending woken ended = record { kind = 2; number = 0; woken = woken; ended = ended; d3 = 0; a0 = 0 }

-- ---- A to D, who are ordinary processes, and the sequences

abbrev pub A : ℕ
A = 2

abbrev pub B : ℕ
B = 3

abbrev pub C : ℕ
C = 4

abbrev pub D : ℕ
D = 5

abbrev pub x : List ℕ
x = 120 ∷ []

abbrev pub y : List ℕ
y = 121 ∷ []

abbrev pub ab : List ℕ
ab = 65 ∷ 66 ∷ []

abbrev pub abc : List ℕ
abc = 65 ∷ 66 ∷ 67 ∷ []

abbrev pub sixteen : List ℕ
sixteen = replicate 16 120

abbrev pub shared : ℕ
shared = 0

abbrev pub unshared : ℕ
unshared = 1

abbrev pub shared_if : ℕ
shared_if = 2

abbrev pub unshared_if : ℕ
unshared_if = 3

-- the numbers from n on, k of them
abbrev pub count : ℕ → ℕ → List ℕ
count n zero = []
count n (suc k) = n ∷ count (n + 1) k

-- ---- cases

-- events with the answer to each, from a state, and a test of the machine after them; the prover names a case that does not hold
pub record Case : Type 0 where
  pub name : String
  pub from : State
  pub told : List (Event × Answer)
  pub leaves : Machine → Bool

-- an event and its answer
infix 70 ◌gets◌
abbrev pub ◌gets◌ : Event → Answer → Event × Answer
e gets a = (e, a)

-- the state and the answers after these events
abbrev pub played : State → List (Event × Answer) → State × List Answer
played s [] = (s, [])
played s (t ∷ ts) =
    let r = step_of s t.0 in
    let rest = played r.state ts in
    (rest.0, r.answer ∷ rest.1)

-- what a case comes to, and what it should come to
abbrev pub comes : Case → List Answer × Bool
comes c = let r = played c.from c.told in (r.1, c.leaves (view r.0))

abbrev pub should : Case → List Answer × Bool
should c = (map (λ t. t.1) c.told, true)

-- from this state, whatever the machine is after the events
abbrev pub tale : String → State → List (Event × Answer) → Case
tale name from told = record { name = name; from = from; told = told; leaves = λ m. true }

-- process 1 makes A to D
abbrev pub births : List (Event × Answer)
births = fshell 1 0 0 gets gives A 0 ∷ fshell 1 0 0 gets gives B 0 ∷ fshell 1 0 0 gets gives C 0 ∷ fshell 1 0 0 gets gives D 0 ∷ []

-- from the fresh state, with A to D made
abbrev pub story : String → List (Event × Answer) → Case
story name told = tale name (laid fresh) (births ++ told)

abbrev pub story_then : String → (Machine → Bool) → List (Event × Answer) → Case
story_then name leaves told = record { name = name; from = laid fresh; told = births ++ told; leaves = leaves }
