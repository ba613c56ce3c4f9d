-- A loop that processes the PID and the sleep of each process. Assumes nothing.
use Prim.Native.Nat.{ℕ, ◌+◌, ◌*◌, ◌≤◌, ◌<◌}
use native.Mathlib.Omega.{arith}
use mathlib.Core.Path.{◌≡◌, ap, ◌∙◌}
use mathlib.Core.List.{List}
use lib.ListN.{length, get_or, set, length-set}
use lib.Seq.{get_or-set_same, get_or-set_other}
use borrow.Author.Count.{below_more}
use Rattle.rules.specs.State.{no_process}
use Rattle.rules.specs.declared.state.Process.{Process}
use Rattle.signals.specs.declared.masks.Past.{Past}
use Rattle.signals.specs.declared.masks.Before.{Before}
use Rattle.signals.specs.Noted.{Noted, no_past}
use Rattle.places.specs.Places.{Housed, LIVE, Laid, PID, PLACE, PLACES, SLEEP, machine, numbers, procs_in}
use Rattle.places.proofs.Laying.{procs-get, procs-live}

abbrev past_of : Process → Past
past_of p = record { pid = p.pid; sleep = p.rest.sleep }

-- the first i are noted
pub record Noting (ps : List Process) (processes : List Past) (i : ℕ) : Type 0 where
  pub long : length processes ≡ PLACES
  pub noted : (j : ℕ) → j < i → get_or processes j no_past ≡ past_of (get_or ps j no_process)

pub noting : (ps : List Process) (processes : List Past) → length processes ≡ PLACES → Noting ps processes 0
noting ps processes e = record { long = e; noted = λ j (h : j < 0). absurd (omega arith) }

module _ {m : List ℕ} {processes : List Past} {i : ℕ} (o : Housed m) (k : Noting (procs_in m) processes i) where
  -- what the code has read of the next
  pub note-more : {x y : ℕ} → i < get_or m LIVE 0 → x ≡ get_or m (i * PLACE + PID) 0 → y ≡ get_or m (i * PLACE + SLEEP) 0 → Noting (procs_in m) (set processes i (record { pid = x; sleep = y })) (i + 1)
  unfolding numbers
  note-more {x} {y} h e f =
      let n = procs-live o.procs in
      let l : i < length (procs_in m) = omega arith in
      let a = e ∙ procs-get o.procs i l PID (omega arith) in
      let b = f ∙ procs-get o.procs i l SLEEP (omega arith) in
      let z : Past = record { pid = x; sleep = y } in
      record {
        long = length-set processes i z ∙ k.long;
        noted =
            below_more (λ j. get_or (set processes i z) j no_past ≡ past_of (get_or (procs_in m) j no_process)) i
            (λ j (d : j < i). get_or-set_other processes i j z no_past (λ (c : j ≡ i). omega arith) ∙ k.noted j d)
            (get_or-set_same processes i z no_past (omega (arith, k.long, o.live)) ∙ (λ j. record { pid = a j; sleep = b j }));
      }

  pub noted : get_or m LIVE 0 ≤ i → {b : Before} → b.processes ≡ processes → b.live ≡ get_or m LIVE 0 → Noted (procs_in m) b
  noted h {b} e f =
      let n = procs-live o.procs in
      let each : (j : ℕ) → j < length (procs_in m) → get_or b.processes j no_past ≡ past_of (get_or (procs_in m) j no_process) = λ j (l : j < length (procs_in m)). ap (λ (xs : List Past). get_or xs j no_past) e ∙ k.noted j (omega arith) in
      record { live = f ∙ n; pid = λ j l. ap (λ (z : Past). z.pid) (each j l); sleep = λ j l. ap (λ (z : Past). z.sleep) (each j l) }

-- of the machine that the arrays show
module _ {m t : List ℕ} (l : Laid m t) where
  pub noted_here : {b : Before} → Noted (procs_in m) b → Noted (machine m t).procs b
  unfolding machine
  noted_here n = n
