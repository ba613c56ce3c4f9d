-- What an outcome leaves in the arrays and in the answer. Assumes nothing.
use Prim.Native.Nat.{ℕ, ◌≤◌, ◌<◌}
use mathlib.Core.Path.{◌≡◌, ◌∙◌}
use mathlib.Core.Bool.{Bool, true, false}
use mathlib.Core.List.{List}
use lib.ListN.{length, get_or, set}
use Rattle.rules.specs.State.{Machine, no_process, put, sleeps}
use Rattle.rules.specs.Outcome.{Kind, Outcome, answered, either, kind_of, number_of, own, refused, when}
use Rattle.rules.specs.declared.outcome.Refusal.{Refusal}
use Rattle.rules.specs.Step.{woken_mask, ended_mask}
use Rattle.rules.specs.declared.state.Process.{Process}
use Rattle.rules.proofs.Frame.{Ok}
use Rattle.places.proofs.Masking.{Quiet}
use Rattle.locks.specs.Cells.{Rows}
use Rattle.places.specs.Places.{Calls, Lays, Procs, caller, machine}
use Rattle.places.specs.Settled.{Does, Settled, answer_of, masked, own_answer, process_after}
use Rattle.rules.specs.Reply.{four_of}
use Rattle.places.proofs.Callings.{at_back, at-put, at-quiet, calls-here, calls-ok}

module _ {s : Machine} {out m t : List ℕ} where
  -- refused: the arrays are as they were
  pub settled-refused : (r : Refusal) → Lays m t s → out ≡ four_of (answer_of 3 (number_of r) 0 0) → Settled s (refused r) out m t
  settled-refused r l a = record { lays = l; answer = a }

  pub settled-when : {b : Bool} (r : Refusal) (o : Outcome Machine) → b ≡ true → Lays m t s → out ≡ four_of (answer_of 3 (number_of r) 0 0) → Settled s (when b r o) out m t
  settled-when r o h l a = record { lays = rw h l; answer = rw h a }

  pub settled-past : {b : Bool} (r : Refusal) {o : Outcome Machine} → b ≡ false → Settled s o out m t → Settled s (when b r o) out m t
  settled-past r h c = record { lays = rw h c.lays; answer = rw h c.answer }

  -- another outcome behind a check
  pub settled-under : (b : Bool) (r : Refusal) {o u : Outcome Machine} → (Settled s o out m t → Settled s u out m t) → Settled s (when b r o) out m t → Settled s (when b r u) out m t
  settled-under true r f c = record { lays = c.lays; answer = c.answer }
  settled-under false r f c = let d = f (record { lays = c.lays; answer = c.answer }) in record { lays = d.lays; answer = d.answer }

  pub settled-first : {b : Bool} {x : Outcome Machine} (y : Outcome Machine) → b ≡ true → Settled s x out m t → Settled s (either b x y) out m t
  settled-first y h c = record { lays = rw h c.lays; answer = rw h c.answer }

  pub settled-second : {b : Bool} (x : Outcome Machine) {y : Outcome Machine} → b ≡ false → Settled s y out m t → Settled s (either b x y) out m t
  settled-second x h c = record { lays = rw h c.lays; answer = rw h c.answer }

  -- answered, and nobody wakes or ends
  pub settled-quiet : {u : Machine} (k : Kind) (d3 a0 : ℕ) → Lays m t u → Quiet s u → out ≡ four_of (answer_of (kind_of k) 0 d3 a0) → Settled s (answered k d3 a0 u) out m t
  settled-quiet k d3 a0 l q a = record { lays = l; answer = a ∙ rw (q.0, q.1) }

  -- answered with these masks
  pub settled-masked : {u : Machine} (k : Kind) {w e : ℕ} → Lays m t u → w ≡ woken_mask s u → e ≡ ended_mask s u → out ≡ four_of (masked (kind_of k) w e) → Settled s (answered k 0 0 u) out m t
  settled-masked k l f g a = record { lays = l; answer = a ∙ rw (f, g) }

-- ---- what the process at place i has asked for, of itself alone

module _ {s : Machine} (ok : Ok s) {i : ℕ} (l : i < length s.procs) (a : sleeps (get_or s.procs i no_process) ≡ false) {out m t : List ℕ} (r : Rows t s.rows) (few : length s.rows ≤ 32) where
  own-settled : (x : Outcome Process) → (process_after (get_or s.procs i no_process) x).pid ≡ (get_or s.procs i no_process).pid → Procs m (set s.procs i (process_after (get_or s.procs i no_process) x)) (length s.rows) s.next → out ≡ four_of (own_answer x) → Settled s (own s x) out m t
  unfolding put
  own-settled (refused n) e p o = record { lays = record { procs = rw (at_back ok l) at p; rows = r; used = few }; answer = o }
  own-settled (answered k d3 a0 q) e p o =
      settled-quiet k d3 a0 (record { procs = rw (at-put ok l q e) p; rows = r; used = few }) (at-quiet ok l q e a (put q s) (at-put ok l q e)) o
  own-settled (when true n x) e p o = record { lays = record { procs = rw (at_back ok l) at p; rows = r; used = few }; answer = o }
  own-settled (when false n x) e p o = let c = own-settled x e p o in record { lays = c.lays; answer = c.answer }
  own-settled (either true x y) e p o = let c = own-settled x e p o in record { lays = c.lays; answer = c.answer }
  own-settled (either false x y) e p o = let c = own-settled y e p o in record { lays = c.lays; answer = c.answer }

pub does-settled : {m t : List ℕ} {i : ℕ} {out v : List ℕ} → Calls m t i → (o : Process → Outcome Process) → (process_after (caller m t i) (o (caller m t i))).pid ≡ (caller m t i).pid → Does o m i out v
    → Settled (machine m t) (own (machine m t) (o (caller m t i))) out v t
does-settled {m} {t} {i} c o e d =
    let b = d.is c.laid.lays.procs (calls-here c) in
    own-settled (calls-ok c) (calls-here c) c.awake c.laid.lays.rows c.laid.lays.used (o (caller m t i)) e b.0 b.1
