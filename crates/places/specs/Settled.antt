-- What an event comes to in the arrays: the answer as four numbers, and the machine after it. Assumes nothing.
use Rattle.std.specs.declared.result.Result.{Result}
use Rattle.std.specs.Prelude.{Ok, Err, ℕ, ◌<◌, ◌≡◌, true, false, cond, List, length, get_or, set, take, drop}
use Rattle.locks.specs.Lists.{all}
use Rattle.locks.specs.Words.{is_byte, value}
use Rattle.rules.specs.State.{Machine, no_process}
use Rattle.rules.specs.Outcome.{Outcome, refused, answered, when, either, refusal, kind_of}
use Rattle.rules.specs.declared.outcome.Refusal.{Refusal}
use Rattle.rules.specs.Step.{woken_mask, ended_mask}
use Rattle.rules.specs.Reply.{four_of}
use Rattle.rules.specs.declared.state.Process.{Process}
use Rattle.rules.specs.declared.state.Event.{Event}
use Rattle.rules.specs.declared.state.Answer.{Answer}
use Rattle.places.specs.Places.{Procs, Laid, Lays, Calls, caller, machine}
use Rattle.places.specs.declared.arrays.Arrays.{Arrays}

-- ---- answers

abbrev pub answer_of : ℕ → ℕ → ℕ → ℕ → Answer
answer_of kind number d3 a0 = record { kind = kind; number = number; woken = 0; ended = 0; d3 = d3; a0 = a0 }

abbrev pub masked : ℕ → ℕ → ℕ → Answer
masked kind woken ended = record { kind = kind; number = 0; woken = woken; ended = ended; d3 = 0; a0 = 0 }

-- what an event is answered: the four numbers, or those of its refusal
abbrev pub told : Result (List ℕ) Refusal → List ℕ
told (Ok out) = out
told (Err r) = four_of (refusal r)

-- ---- as `settled` of the rules, of machines

abbrev pub after : Machine → Outcome Machine → Machine
after s (refused r) = s
after s (answered k d3 a0 u) = u
after s (when true r o) = s
after s (when false r o) = after s o
after s (either true x y) = after s x
after s (either false x y) = after s y

abbrev pub answer_to : Machine → Outcome Machine → Answer
answer_to s (refused r) = refusal r
answer_to s (answered k d3 a0 u) =
    record { kind = kind_of k; number = 0; woken = woken_mask s u; ended = ended_mask s u; d3 = d3; a0 = a0 }
answer_to s (when true r o) = refusal r
answer_to s (when false r o) = answer_to s o
answer_to s (either true x y) = answer_to s x
answer_to s (either false x y) = answer_to s y

-- the arrays are what the outcome of s leaves, and out is its answer
pub record Settled (s : Machine) (o : Outcome Machine) (out m t : List ℕ) : Type 0 where
  pub lays : Lays m t (after s o)
  pub answer : out ≡ four_of (answer_to s o)

-- ---- the same of a process alone: nobody wakes or ends

abbrev pub process_after : Process → Outcome Process → Process
process_after p (refused r) = p
process_after p (answered k d3 a0 q) = q
process_after p (when true r o) = p
process_after p (when false r o) = process_after p o
process_after p (either true x y) = process_after p x
process_after p (either false x y) = process_after p y

abbrev pub own_answer : Outcome Process → Answer
own_answer (refused r) = refusal r
own_answer (answered k d3 a0 q) = answer_of (kind_of k) 0 d3 a0
own_answer (when true r o) = refusal r
own_answer (when false r o) = own_answer o
own_answer (either true x y) = own_answer x
own_answer (either false x y) = own_answer y

-- o is what the process at place i has asked for: it is as o leaves it, in its place, and out is the answer
pub record Does (o : Process → Outcome Process) (m : List ℕ) (i : ℕ) (out after : List ℕ) : Type 0 where
  pub is : {ps : List Process} {used next : ℕ} → Procs m ps used next → i < length ps
      → Procs after (set ps i (process_after (get_or ps i no_process) (o (get_or ps i no_process)))) used next
      × (out ≡ four_of (own_answer (o (get_or ps i no_process))))

-- ---- the registers of an event

pub record Asks (e : Event) (d1 d2 d3 a0 : ℕ) : Type 0 where
  pub is-d1 : e.d1 ≡ d1
  pub is-d2 : e.d2 ≡ d2
  pub is-d3 : e.d3 ≡ d3
  pub is-a0 : e.a0 ≡ a0

-- the sequence of an event: its length, 0 where none is named, and its sixteen bytes as two numbers
pub record Sequence (e : Event) (n low high : ℕ) : Type 0 where
  pub count : n ≡ cond e.named e.d3 0
  pub long : length e.seq ≡ 16
  pub small : all is_byte e.seq ≡ true
  pub first : low ≡ value (take 8 e.seq)
  pub last : high ≡ value (drop 8 e.seq)

-- there is such an event
pub record Asked (n low high : ℕ) : Type 0 where
  pub event : Event
  pub asks : Sequence event n low high

-- ---- both arrays as one value

-- they are a machine laid out
abbrev pub Whole : Arrays → Type 0
Whole a = Laid a.numbers a.cells

-- the machine that they show, and its process at place i
abbrev pub shown : Arrays → Machine
shown a = machine a.numbers a.cells

abbrev pub asker : Arrays → ℕ → Process
asker a i = caller a.numbers a.cells i

-- they show a sound machine, whose process at place i is awake
abbrev pub Asking : Arrays → ℕ → Type 0
Asking a i = Calls a.numbers a.cells i

-- they are s laid out
abbrev pub Show : Arrays → Machine → Type 0
Show a s = Lays a.numbers a.cells s

-- they are what the outcome of s leaves, and r tells its answer
abbrev pub Settles : Machine → Outcome Machine → Result (List ℕ) Refusal → Arrays → Type 0
Settles s o r a = Settled s o (told r) a.numbers a.cells
