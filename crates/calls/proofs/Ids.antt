-- The ids of a process where they stand. Assumes nothing.
use Prim.Native.Nat.{ℕ, zero, suc, ◌+◌, ◌*◌, ◌≤◌, ◌<◌}
use native.Mathlib.Omega.{arith}
use mathlib.Core.Path.{◌≡◌, refl, sym, ap, ◌∙◌}
use mathlib.Core.Bool.{true, false, cond, not, ◌&&◌}
use mathlib.Core.List.{List, [], ◌∷◌}
use lib.Dec.{eqb}
use lib.ListN.{get_or, set}
use Rattle.std.proofs.lemmas.Bool.Decides.{nat_tests}
use Rattle.std.proofs.Common.{lt-ltb, le-ltb}
use Rattle.rules.specs.State.{with_user, with_group}
use Rattle.rules.specs.Calls.{id_of, with_id, new_ids, get_id, set_id, bad_ids}
use Rattle.rules.specs.declared.state.Event.{Event}
use Rattle.rules.specs.declared.state.Ids.{Ids}
use Rattle.rules.specs.declared.state.Process.{Process}
use Rattle.places.specs.Places.{GROUP, PLACE, USER, numbers, small_ids, whole}
use Rattle.calls.specs.Own.{field_at, ids_at, with_at, wrong_ids, get_id_at, set_id_at}
use Rattle.calls.specs.declared.own.IdKind.{IdKind}
use Rattle.calls.specs.declared.own.IdKind.TheVariants.{User, Group}
use Rattle.places.specs.Settled.{Does, answer_of}
use Rattle.rules.specs.Reply.{four_of}
use Rattle.places.proofs.Laying.{entire}
use Rattle.places.proofs.Sevens.{wholly}
use Rattle.calls.proofs.Doing.{Here, still, does, turns, privileged-is}
use Rattle.places.proofs.Turning.{turn_is}

three : (P : ℕ → Type 0) → P 0 → P 1 → P 2 → (k : ℕ) → k ≤ 2 → P k
three P a b c zero l = a
three P a b c (suc zero) l = b
three P a b c (suc (suc zero)) l = c
three P a b c (suc (suc (suc k))) l = absurd (omega arith)

-- ids of 16 bits
module _ (i : Ids) (s : small_ids i ≡ true) where
  id-small : (k : ℕ) → k ≤ 2 → id_of k i < 65536
  unfolding id_of
  id-small k l = grind (arith, nat_tests)

  with-small : (v : ℕ) → v < 65536 → (k : ℕ) → k ≤ 2 → small_ids (with_id k v i) ≡ true
  unfolding with_id
  with-small v h k l = grind (arith, nat_tests)

-- ---- the ids at their place

field-low : (ids : IdKind) (k : ℕ) → k ≤ 2 → field_at ids k < PLACE
field-low User k l = omega arith
field-low Group k l = omega arith

at-get : (ids : IdKind) (p : Process) (k : ℕ) → k ≤ 2 → get_or (numbers p) (field_at ids k) 0 ≡ id_of k (ids_at ids p)
unfolding numbers id_of
at-get User p = three (λ k. get_or (numbers p) (USER + k) 0 ≡ id_of k p.user) refl refl refl
at-get Group p = three (λ k. get_or (numbers p) (GROUP + k) 0 ≡ id_of k p.group) refl refl refl

at-change : (ids : IdKind) (p : Process) (v k : ℕ) → k ≤ 2 → set (numbers p) (field_at ids k) v ≡ numbers (with_at ids (with_id k v (ids_at ids p)) p)
unfolding numbers with_id
at-change User p v = three (λ k. set (numbers p) (USER + k) v ≡ numbers (with_user (with_id k v p.user) p)) refl refl refl
at-change Group p v = three (λ k. set (numbers p) (GROUP + k) v ≡ numbers (with_group (with_id k v p.group) p)) refl refl refl

at_small : (ids : IdKind) (p : Process) → whole p ≡ true → small_ids (ids_at ids p) ≡ true
at_small User p w = (entire p w).user
at_small Group p w = (entire p w).group

at-whole : (ids : IdKind) (p : Process) (i : Ids) → whole p ≡ true → small_ids i ≡ true → whole (with_at ids i p) ≡ true
at-whole User p i w s = let e = entire p w in wholly (with_user i p) (record { reactions = e.reactions; traps = e.traps; user = s; group = e.group })
at-whole Group p i w s = let e = entire p w in wholly (with_group i p) (record { reactions = e.reactions; traps = e.traps; user = e.user; group = s })

-- ---- the calls

-- what the test of the registers leaves
ids-fit : (d1 d2 d3 : ℕ) → wrong_ids d1 d2 d3 ≡ false → (d1 ≤ 2) × (d2 ≤ 3) × (d2 ≡ 3 → d3 ≤ 65535)
ids-fit d1 d2 d3 h = (grind (arith, nat_tests), grind (arith, nat_tests), λ e. grind (arith, nat_tests))

abbrev new_at : IdKind → Event → Process → Process
new_at ids e p = with_at ids (new_ids (ids_at ids p) e) p

at_set : (ids : IdKind) (p : Process) (e : Event) (v : ℕ) → v ≡ cond (eqb e.d2 3) e.d3 (id_of e.d2 (ids_at ids p)) → v < 65536 → e.d1 ≤ 2 → whole p ≡ true
    → (set (numbers p) (field_at ids e.d1) v ≡ numbers (new_at ids e p)) × (whole (new_at ids e p) ≡ true)
unfolding new_ids
at_set ids p e v h l b w =
    rw (← h) (at-change ids p v e.d1 b, at-whole ids p (with_id e.d1 v (ids_at ids p)) w (with-small (ids_at ids p) (at_small ids p w) v l e.d1 b))

module _ {m : List ℕ} {i : ℕ} (ids : IdKind) where
  -- what m tells of an id
  id-is : {p : Process} → Here m i p → (k : ℕ) → k ≤ 2 → get_or m (i * PLACE + field_at ids k) 0 ≡ id_of k (ids_at ids p)
  id-is {p} l k b = let n : field_at ids k < PLACE = field-low ids k b in l.get (field_at ids k) n ∙ at-get ids p k b

  module _ (e : Event) where
    pub get-done : {x : ℕ} {out : List ℕ} → e.d2 ≤ 2 → x ≡ get_or m (i * PLACE + field_at ids e.d2) 0 → out ≡ four_of (answer_of 0 0 x 0) → Does (λ p. get_id_at ids p e) m i out m
    unfolding get_id
    get-done {x} h r o =
        does (answer_of 0 0 x 0) still o
        (λ p l. rw (le-ltb 2 e.d2 h) (refl, ap (λ (k : ℕ). answer_of 0 0 k 0) (sym (r ∙ id-is l e.d2 h))))

    -- the new id is its source, and small
    value-is : bad_ids e ≡ false → {p : Process} → Here m i p → (v : ℕ) → v ≡ cond (eqb e.d2 3) e.d3 (get_or m (i * PLACE + field_at ids e.d2) 0)
        → (v ≡ cond (eqb e.d2 3) e.d3 (id_of e.d2 (ids_at ids p))) × (v < 65536)
    value-is h {p} l v r =
        let f = ids-fit e.d1 e.d2 e.d3 h in
        let own : e.d2 ≤ 2 → get_or m (i * PLACE + field_at ids e.d2) 0 ≡ id_of e.d2 (ids_at ids p) = id-is l e.d2 in
        let low : e.d2 ≤ 2 → id_of e.d2 (ids_at ids p) < 65536 = id-small (ids_at ids p) (at_small ids p l.whole) e.d2 in
        (grind (arith, nat_tests), grind (arith, nat_tests))

    -- id D1 becomes v, by one who may
    pub set-done : (v : ℕ) {out after : List ℕ} → bad_ids e ≡ false → (eqb e.d2 3 && not (eqb (get_or m (i * PLACE + USER) 0) 0)) ≡ false
        → v ≡ cond (eqb e.d2 3) e.d3 (get_or m (i * PLACE + field_at ids e.d2) 0) → after ≡ set m (i * PLACE + field_at ids e.d1) v → out ≡ four_of (answer_of 0 0 0 0) → Does (λ p. set_id_at ids p e) m i out after
    unfolding set_id new_ids
    set-done v h q r u o =
        let f = ids-fit e.d1 e.d2 e.d3 h in
        let n : field_at ids e.d1 < PLACE = field-low ids e.d1 f.0 in
        does (answer_of 0 0 0 0)
        (turn_is u (turns (new_at ids e) ((field_at ids e.d1, v) ∷ []) (rw (lt-ltb (field_at ids e.d1) PLACE n)) (λ p l. let x = value-is h l v r in at_set ids p e v x.0 x.1 f.0 l.whole))) o
        (λ p l. rw (h, privileged-is l refl, q) (refl, refl))
