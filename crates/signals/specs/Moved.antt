-- Processes that move up in their array when one goes. Assumes nothing.
use Rattle.std.specs.Prelude.{ℕ, ◌-◌, ◌≤◌, ◌≡◌, not, List, [], ◌∷◌, ◌++◌, length, get_or, take, drop, replicate}
use Rattle.locks.specs.Lists.{keep}
use Rattle.rules.specs.State.{no_process, has}
use Rattle.rules.specs.declared.state.Process.{Process}
use Rattle.locks.specs.Pieces.{joined}
use Rattle.places.specs.Places.{PLACES, LIVE, USED, NEXT, numbers, procs_in}

-- every place, also those that no process uses, and the counts z
pub record Places (m : List ℕ) (ys : List Process) (z : List ℕ) : Type 0 where
  pub is : m ≡ joined numbers ys ++ z
  pub long : length ys ≡ PLACES

abbrev pub counts_in : List ℕ → List ℕ
counts_in m = get_or m LIVE 0 ∷ get_or m USED 0 ∷ get_or m NEXT 0 ∷ []

-- the processes of m but those of that PID stand first, k in number; behind the places that were used all is unused
pub record Moved (pid : ℕ) (m after : List ℕ) (k : ℕ) : Type 0 where
  pub ys : List Process
  pub places : Places after ys (counts_in m)
  pub kept : take k ys ≡ keep (λ p. not (has pid p)) (procs_in m)
  pub behind : drop (get_or m LIVE 0) ys ≡ replicate (PLACES - get_or m LIVE 0) no_process
  pub fewer : k ≤ get_or m LIVE 0
