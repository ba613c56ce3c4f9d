-- Texts put into a buffer, one after another. Assumes nothing.
use Prim.Native.Nat.{ℕ, suc, ◌+◌, ◌≤◌}
use native.Mathlib.Nat.{add-zero, zero-add}
use native.Mathlib.Omega.{arith}
use mathlib.Core.Path.{◌≡◌, refl, sym, ◌∙◌}
use mathlib.Core.List.{List, [], ◌∷◌, ◌++◌, append_assoc}
use lib.ListN.{length, take, drop, set, length-append}
use lib.Seq.{sets, sets-eq, length-sets, take_at, drop_at, drop-drop}
use borrow.Rule.Slice.PartMut.{put_mid}
use Rattle.line.specs.Line.{Put, Printed}

-- a text copied over a part of the buffer, k bytes from `at` on
module _ (text o y : List ℕ) (at k : ℕ) (h : at + length text ≤ length o) (l : k ≡ length text) (e : y ≡ text) where
  part_stored : put_mid at k o y ≡ sets o at text
  part_stored = rw (e, l, drop-drop) (sym (append_assoc (take at o) text (drop (at + length text) o)) ∙ sym (sets-eq text o at h))

  pub to-part : Put text at o (at + length text) (put_mid at k o y)
  to-part = record { ends = refl; room = rw (part_stored, length-sets) h; stored = part_stored }

sets-append : (x y l : List ℕ) (i : ℕ) → sets l i (x ++ y) ≡ sets (sets l i x) (i + length x) y
sets-append [] y l i = rw add-zero
sets-append (a ∷ x) y l i =
    let e : i + suc (length x) ≡ suc i + length x = omega arith in
    rw e (sets-append x y (set l i a) (suc i))

pub then : {x y l m o : List ℕ} {i j k : ℕ} → Put x i l j m → Put y j m k o → Put (x ++ y) i l k o
then {x} {y} {l} {m} {o} {i} {j} {k} p q =
    record {
      ends = simp length-append (omega arith);
      room = q.room;
      stored = rw (q.stored, p.stored, p.ends) (sym (sets-append x y l i));
    }

pub printed : {x l o : List ℕ} {n : ℕ} → Put x 0 l n o → Printed x l n o
printed {x} {l} {o} {n} p =
    let f : length x ≡ n = omega arith in
    let h : 0 + length x ≤ length l = simp length-sets at (rw (p.stored, p.ends) at p.room) in
    let e : o ≡ x ++ drop n l = rw (p.stored, sets-eq x l 0 h, zero-add, f) in
    let g : take n o ≡ x = rw e (take_at x (drop n l) n f) in
    record { counts = (p.room, rw (g, f)); first = g; rest = rw e (drop_at x (drop n l) n f) }
