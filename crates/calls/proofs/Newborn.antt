-- The child of fshell behind the live processes. Assumes nothing.
use Prim.Native.Nat.{ℕ, suc, ◌+◌, ◌-◌, ◌*◌, ◌<◌}
use native.Mathlib.Omega.{arith}
use mathlib.Core.Path.{◌≡◌, refl, sym, ap, ◌∙◌}
use mathlib.Core.Bool.{true, false, cond, ◌||◌}
use mathlib.Core.List.{List, [], ◌∷◌, ◌++◌, append_assoc}
use lib.Dec.{eqb, ltb}
use Rattle.std.specs.Prelude.{Err}
use lib.ListN.{length, get_or, set, replicate, length-append, get_or-append}
use lib.Seq.{set_at, get_or_at}
use borrow.Author.Tests.{ne_eqb}
use Rattle.locks.specs.Lists.{padded}
use Rattle.locks.proofs.Lists.{all_end}
use Rattle.rules.specs.State.{abort, no_ids, no_process, new_process}
use Rattle.rules.specs.Outcome.{done, badcall, nomemory}
use Rattle.rules.specs.Calls.{born, child, child_reaction, child_reactions, do_fshell}
use Rattle.rules.specs.declared.state.Process.{Process}
use Rattle.rules.specs.declared.state.Event.{Event}
use Rattle.places.proofs.Masking.{born-masks}
use Rattle.calls.specs.Making.{id_in, reaction_in, run}
use Rattle.locks.specs.Pieces.{changes, stores, within}
use Rattle.places.specs.Places.{Calls, LIVE, NEXT, PID, PLACE, PLACES, Procs, REACTIONS, USER, caller, laid_procs, machine, numbers, whole}
use Rattle.places.specs.Settled.{Settled, answer_of, told}
use Rattle.rules.specs.Reply.{four_of}
use Rattle.places.proofs.Callings.{calls-here, calls-ok}
use Rattle.places.proofs.Laying.{entire, procs-get, procs-live, procs-next, procs-set, seven-all, wide}
use Rattle.locks.proofs.Padding.{padded-length}
use Rattle.calls.proofs.Making.{run-same}
use Rattle.locks.proofs.Pieces.{joined_length, set-append-add}
use Rattle.places.proofs.Settling.{settled-past, settled-quiet, settled-when}
use Rattle.places.proofs.Sevens.{wholly}
use Rattle.places.proofs.Turning.{at-whole}

-- ---- one more place is used: it is zero already

one-used : {A : Type 0} (n : ℕ) (z : A) (xs : List A) → length xs < n → padded n z (xs ++ z ∷ []) ≡ padded n z xs
unfolding padded
one-used n z xs l =
    let e : n - length xs ≡ suc (n - (length xs + 1)) = omega arith in
    rw (length-append xs (z ∷ []), e) (append_assoc xs (z ∷ []) (replicate (n - (length xs + 1)) z))

room-made : {m : List ℕ} {ps : List Process} {used next : ℕ} → Procs m ps used next → length ps < PLACES → Procs (set (set m LIVE (length ps + 1)) NEXT (next + 1)) (ps ++ no_process ∷ []) used (next + 1)
unfolding laid_procs no_process new_process whole
room-made {m} {ps} {used} {next} l b =
    let n : length (laid_procs ps) ≡ LIVE = joined_length numbers PLACE wide (padded PLACES no_process ps) ∙ rw (padded-length PLACES no_process ps l.few) in
    let k = length ps + 1 in
    let first : set (laid_procs ps ++ length ps ∷ used ∷ next ∷ []) LIVE k ≡ laid_procs ps ++ k ∷ used ∷ next ∷ [] =
    ap (λ (x : ℕ). set (laid_procs ps ++ length ps ∷ used ∷ next ∷ []) (x + 0) k) (sym n) ∙ set-append-add (laid_procs ps) (length ps ∷ used ∷ next ∷ []) 0 k in
    let last : set (laid_procs ps ++ k ∷ used ∷ next ∷ []) NEXT (next + 1) ≡ laid_procs ps ++ k ∷ used ∷ (next + 1) ∷ [] =
    ap (λ (x : ℕ). set (laid_procs ps ++ k ∷ used ∷ next ∷ []) (x + 2) (next + 1)) (sym n) ∙ set-append-add (laid_procs ps) (k ∷ used ∷ next ∷ []) 2 (next + 1) in
    record {
      is = ap (λ (x : List ℕ). set (set x LIVE k) NEXT (next + 1)) l.is ∙ ap (λ (x : List ℕ). set x NEXT (next + 1)) first ∙ last ∙ rw (one-used PLACES no_process ps b, length-append ps (no_process ∷ []));
      few = rw (length-append ps (no_process ∷ [])) (omega arith);
      whole = all_end whole ps no_process l.whole refl;
    }

module _ {m : List ℕ} (ps : List Process) (c : Process) {used next : ℕ} (l : Procs m (ps ++ c ∷ []) used next) where
  -- stores to the last process
  last_set : (ss : List (ℕ × ℕ)) (q : Process) → within PLACE ss ≡ true → changes (numbers c) ss ≡ numbers q → whole q ≡ true → Procs (stores PLACE m (length ps) ss) (ps ++ q ∷ []) used next
  last_set ss q b e w =
      let h : length ps < length (ps ++ c ∷ []) = rw (length-append ps (c ∷ [])) (omega arith) in
      rw (set_at ps c [] q (length ps) refl) at (procs-set l (length ps) h ss q b (rw (get_or_at ps c [] no_process (length ps) refl) e) w)

  -- the others are as they were
  other-get : (i : ℕ) → i < length ps → (k : ℕ) → k < PLACE → get_or m (i * PLACE + k) 0 ≡ get_or (numbers (get_or ps i no_process)) k 0
  other-get i h k b =
      let g : i < length (ps ++ c ∷ []) = rw (length-append ps (c ∷ [])) (omega arith) in
      procs-get l i g k b ∙ ap (λ (p : Process). get_or (numbers p) k 0) (get_or-append ps (c ∷ []) no_process i h)

-- ---- the child, number by number

-- with the parent's ids and priority, and its reactions all abort
abbrev heir : Process → ℕ → Process
heir p n = new_process n p.user p.group p.priority (replicate 7 0)

numbered : (n : ℕ) → changes (numbers no_process) ((PID, n) ∷ []) ≡ numbers (new_process n no_ids no_ids 0 (replicate 7 0))
unfolding numbers no_process new_process
numbered n = refl

module _ (p : Process) (n : ℕ) (m : List ℕ) (i : ℕ) (r : (k : ℕ) → k < PLACE → get_or m (i * PLACE + k) 0 ≡ get_or (numbers p) k 0) where
  entitled : changes (numbers (new_process n no_ids no_ids 0 (replicate 7 0))) (run USER (id_in m i) 7) ≡ numbers (heir p n)
  unfolding numbers new_process
  entitled = ap (changes (numbers (new_process n no_ids no_ids 0 (replicate 7 0)))) (run-same USER (id_in m i) (λ k. get_or (numbers p) (USER + k) 0) 7 (λ k l. r (USER + k) (omega arith)))

  reacts : (e : Event) → length p.signals.reactions ≡ 7 → changes (numbers (heir p n)) (run REACTIONS (reaction_in e.d1 e.d2 m i) 7) ≡ numbers (child p e n)
  unfolding numbers new_process child child_reactions
  reacts e h =
      let g : ℕ → ℕ → ℕ = λ k a. cond (eqb k 2) abort (child_reaction e.d1 e.d2 k a) in
      ap (changes (numbers (heir p n))) (run-same REACTIONS (reaction_in e.d1 e.d2 m i) (λ k. g k (get_or (numbers p) (REACTIONS + k) 0)) 7 (λ k l. ap (g k) (r (REACTIONS + k) (omega arith))))
      ∙ ap (λ (xs : List ℕ). numbers (new_process n p.user p.group p.priority (child_reactions e.d1 e.d2 0 xs))) (seven-all p.signals.reactions h)

first-whole : (n : ℕ) → whole (new_process n no_ids no_ids 0 (replicate 7 0)) ≡ true
unfolding whole new_process
first-whole n = refl

module _ (p : Process) (n : ℕ) (w : whole p ≡ true) where
  heir-whole : whole (heir p n) ≡ true
  unfolding new_process
  heir-whole = let h = entire p w in wholly (heir p n) (record { reactions = refl; traps = refl; user = h.user; group = h.group })

  child-whole : (e : Event) → whole (child p e n) ≡ true
  unfolding new_process child child_reactions
  child-whole e =
      let h = entire p w in
      wholly (child p e n)
      (record {
        reactions = ap (λ (xs : List ℕ). length (child_reactions e.d1 e.d2 0 xs)) (sym (seven-all p.signals.reactions h.reactions));
        traps = refl;
        user = h.user;
        group = h.group;
      })

-- ---- the call

-- its three steps, over the processes
child-made : (u v : List ℕ) {m w : List ℕ} {ps : List Process} {used next i : ℕ} (e : Event) → Procs m ps used next → length ps < PLACES → i < length ps
    → u ≡ set (set (set m LIVE (length ps + 1)) NEXT (next + 1)) (length ps * PLACE + PID) next → v ≡ stores PLACE u (length ps) (run USER (id_in u i) 7)
    → w ≡ stores PLACE v (length ps) (run REACTIONS (reaction_in e.d1 e.d2 v i) 7) → Procs w (ps ++ child (get_or ps i no_process) e next ∷ []) used (next + 1)
child-made u v {ps = ps} {used} {next} {i} e l b h eu ev ew =
    let p = get_or ps i no_process in
    let whole-p = at-whole l h in
    let first = new_process next no_ids no_ids 0 (replicate 7 0) in
    let a : Procs u (ps ++ first ∷ []) used (next + 1) = rw eu (last_set ps no_process (room-made l b) ((PID, next) ∷ []) first refl (numbered next) (first-whole next)) in
    let o : Procs v (ps ++ heir p next ∷ []) used (next + 1) = rw ev (last_set ps first a (run USER (id_in u i) 7) (heir p next) refl (entitled p next u i (other-get ps first a i h)) (heir-whole p next whole-p)) in
    rw ew (last_set ps (heir p next) o (run REACTIONS (reaction_in e.d1 e.d2 v i) 7) (child p e next) refl (reacts p next v i (other-get ps (heir p next) o i h) e (entire p whole-p).reactions) (child-whole p next whole-p e))

module _ {m t : List ℕ} {i x : ℕ} (c : Calls m t i) where
  live-is : x ≡ get_or m LIVE 0 → length (machine m t).procs ≡ x
  live-is a = sym (a ∙ procs-live c.laid.lays.procs)

  next-is : x ≡ get_or m NEXT 0 → (machine m t).next ≡ x
  next-is b = sym (b ∙ procs-next c.laid.lays.procs)

module _ {m t : List ℕ} {i : ℕ} (c : Calls m t i) (e : Event) where
  pub fshell-bad : (ltb 255 e.d1 || ltb 255 e.d2) ≡ true → Settled (machine m t) (do_fshell (caller m t i) e (machine m t)) (told (Err badcall)) m t
  unfolding do_fshell
  fshell-bad h = settled-when badcall _ h c.laid.lays refl

  module _ {live next : ℕ} (h : (ltb 255 e.d1 || ltb 255 e.d2) ≡ false) (a : live ≡ get_or m LIVE 0) (b : next ≡ get_or m NEXT 0) where
    pub fshell-full : (eqb live 16 || eqb next 65536) ≡ true → Settled (machine m t) (do_fshell (caller m t i) e (machine m t)) (told (Err nomemory)) m t
    unfolding do_fshell
    fshell-full f = settled-past badcall h (settled-when nomemory _ (rw (live-is c a, next-is c b) f) c.laid.lays refl)

    pub fshell-done : {u v w out : List ℕ} → (live ≡ 16 → ⊥) → (next ≡ 65536 → ⊥) → u ≡ set (set (set m LIVE (live + 1)) NEXT (next + 1)) (live * PLACE + PID) next
        → v ≡ stores PLACE u live (run USER (id_in u i) 7) → w ≡ stores PLACE v live (run REACTIONS (reaction_in e.d1 e.d2 v i) 7) → out ≡ four_of (answer_of 0 0 next 0)
        → Settled (machine m t) (do_fshell (caller m t i) e (machine m t)) out w t
    unfolding do_fshell born
    fshell-done {u} {v} f g eu ev ew o =
        let l = c.laid.lays in
        let few : length (machine m t).procs < PLACES = (let k = live-is c a in omega (arith, f, l.procs.few)) in
        let full : (eqb (length (machine m t).procs) 16 || eqb (machine m t).next 65536) ≡ false = rw (live-is c a, next-is c b, ne_eqb live 16 f, ne_eqb next 65536 g) in
        settled-past badcall h
        (settled-past nomemory full
        (settled-quiet done (machine m t).next 0
        (record { procs = child-made u v e l.procs few (calls-here c) (rw (live-is c a, next-is c b) eu) (rw (live-is c a) ev) (rw (live-is c a) ew); rows = l.rows; used = l.used })
        (born-masks (child (caller m t i) e (machine m t).next) (machine m t) (calls-ok c)) (rw (next-is c b) o)))
