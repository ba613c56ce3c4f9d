-- The places of a key and of a sheet. Assumes nothing.
use Prim.Native.Nat.{ℕ, zero, suc, ◌+◌, ◌*◌, ◌≤◌, min}
use native.Mathlib.Omega.{arith}
use mathlib.Core.Path.{◌≡◌, refl, sym, ap, ◌∙◌}
use mathlib.Core.Bool.{true, cond}
use mathlib.Core.Logic.{◌≢◌}
use native.Mathlib.Nat.{zero-add, add_assoc}
use mathlib.Core.List.{List, [], ◌∷◌, ◌++◌, map, append-nil}
use lib.ListN.{length}
use lib.Seq.{ext_get_or}
use borrow.Author.Tests.{eq-eqb}
use Rattle.locks.specs.Lists.{agree, all}
use Rattle.locks.proofs.Tests.{cases, picked, off}
use Rattle.locks.proofs.Lists.{all_of_map}
use Rattle.locks.proofs.Loops.{agree-self, agree_at}
use Rattle.rules.specs.State.{laid, fresh}
use Rattle.rules.specs.Step.{step_of}
use Rattle.rules.specs.declared.state.State.{State}
use Rattle.rules.specs.declared.state.Answer.{Answer}
use Rattle.papers.specs.Bytes.{run, sixteens_from, joined, is_sixteen}
use Rattle.papers.specs.Layout.{event_count, answer_count}
use Rattle.papers.specs.Events.{event_at, events_from, events_of}
use Rattle.papers.specs.Answers.{answer_bytes, sheet_header, places_of}
use Rattle.papers.proofs.Runs.{sixteens-count, joined-long, sixteens-back}
use Rattle.papers.proofs.Sheets.{header-long, answer-long, made-count}
use Rattle.rules.specs.Play.{answers_from}
use Rattle.marker.specs.Key.{key_places, key_of}
use Rattle.marker.specs.Mark.{right_places}
use Rattle.marker.specs.Promises.{PlacesCount}

-- ---- how many they are

pub answers-count : (s : State) (p : List ℕ) (at n : ℕ) → length (map answer_bytes (answers_from s (events_from p at n))) ≡ n
answers-count s p at zero = refl
answers-count s p at (suc n) = ap suc (answers-count (step_of s (event_at p at)).state p (at + 20) n)

pub key-count : (p : List ℕ) → length (key_places p) ≡ event_count p
unfolding key_places
key-count p = answers-count (laid fresh) p 12 (event_count p)

-- ---- how many are right

-- places that only one of the two has are not right
pub right-least : (s : State) (p t : List ℕ) (at from n a : ℕ)
    → right_places (map answer_bytes (answers_from s (events_from p at n))) (sixteens_from t from a)
    ≡ right_places (map answer_bytes (answers_from s (events_from p at (min n a)))) (sixteens_from t from (min n a))
right-least s p t at from zero a = let e : min 0 a ≡ 0 = omega arith in rw e
right-least s p t at from (suc n) zero = let e : min (suc n) 0 ≡ 0 = omega arith in rw e
right-least s p t at from (suc n) (suc a) =
    let e : min (suc n) (suc a) ≡ suc (min n a) = omega arith in
    rw (e, right-least (step_of s (event_at p at)).state p t (at + 20) (from + 16) n a)

pub right-most : (xs ys : List (List ℕ)) → right_places xs ys ≤ min (length xs) (length ys)
right-most [] ys = omega arith
right-most (x ∷ xs) [] = omega arith
right-most (x ∷ xs) (y ∷ ys) =
    let h = right-most xs ys in
    picked (λ n. n + right_places xs ys ≤ min (suc (length xs)) (suc (length ys))) (agree 16 x y) (λ e. omega arith) (λ e. omega arith)

pub right-fits : (p s : List ℕ) → right_places (key_places p) (places_of s) ≤ min (event_count p) (answer_count s)
right-fits p s = rw (key-count p, sixteens-count s 6 (answer_count s)) at (right-most (key_places p) (places_of s))

pub right-self : (xs : List (List ℕ)) → right_places xs xs ≡ length xs
right-self [] = refl
right-self (x ∷ xs) = rw (agree-self 16 x, right-self xs) (omega arith)

same : (a : Answer) (t : List ℕ) (from : ℕ) → agree 16 (answer_bytes a) (run t from 16) ≡ true → answer_bytes a ≡ run t from 16
unfolding answer_bytes
same a t from e = ext_get_or 0 (answer_bytes a) (run t from 16) refl (agree_at 16 (answer_bytes a) (run t from 16) e)

-- each place counts by itself
pub right-parts : (xs ys more over : List (List ℕ)) → length xs ≡ length ys → right_places (xs ++ more) (ys ++ over) ≡ right_places xs ys + right_places more over
right-parts [] [] more over h = sym (zero-add (right_places more over))
right-parts [] (y ∷ ys) more over h = absurd (omega arith)
right-parts (x ∷ xs) [] more over h = absurd (omega arith)
right-parts (x ∷ xs) (y ∷ ys) more over h = rw (right-parts xs ys more over (omega arith)) (sym (add_assoc (cond (agree 16 x y) 1 0) (right_places xs ys) (right_places more over)))

right-wrong : (x y : List ℕ) → length x ≡ 16 → length y ≡ 16 → x ≢ y → right_places (x ∷ []) (y ∷ []) ≡ 0
right-wrong x y h k d = rw (off (agree 16 x y) (λ e. d (ext_get_or 0 x y (h ∙ sym k) (λ i l. agree_at 16 x y e i (omega arith)))))

right-missing : (more : List (List ℕ)) → right_places more [] ≡ 0
right-missing [] = refl
right-missing (x ∷ more) = refl

pub places_count : PlacesCount
places_count = record { parts = right-parts; right = λ x. right-self (x ∷ []); wrong = right-wrong; missing = right-missing; over = λ over. refl }

-- where all are right, they are the same
pub right-all : (xs : List Answer) (t : List ℕ) (from n : ℕ) → n ≤ length (map answer_bytes xs) → right_places (map answer_bytes xs) (sixteens_from t from n) ≡ length (map answer_bytes xs)
    → sixteens_from t from n ≡ map answer_bytes xs
right-all [] t from zero l h = refl
right-all [] t from (suc n) l h = absurd (omega arith)
right-all (a ∷ xs) t from zero l h = absurd (omega arith)
right-all (a ∷ xs) t from (suc n) l h =
    cases (agree 16 (answer_bytes a) (run t from 16))
    (λ e. let r = rw e at h in rw (same a t from e, right-all xs t (from + 16) n (omega arith) (omega arith)))
    (λ e. let r = rw e at h in absurd (omega (arith, right-most (map answer_bytes xs) (sixteens_from t (from + 16) n))))

-- ---- the places of a key that is handed in as a sheet

answers-sixteen : (xs : List Answer) → all is_sixteen (map answer_bytes xs) ≡ true
answers-sixteen xs = all_of_map is_sixteen answer_bytes (λ a. true) (λ a h. eq-eqb (length (answer_bytes a)) 16 (answer-long a)) xs (all_true xs)
  where
    all_true : (ys : List Answer) → all (λ a. true) ys ≡ true
    all_true [] = refl
    all_true (a ∷ ys) = all_true ys

pub answers-long : (xs : List Answer) → length (joined (map answer_bytes xs)) ≡ 16 * length (map answer_bytes xs)
answers-long xs = joined-long (map answer_bytes xs) (answers-sixteen xs)

pub key-places : (p : List ℕ) → places_of (key_of p) ≡ key_places p
unfolding key_of key_places
key-places p =
    let e = rw (key-count p, header-long (event_count p), append-nil (joined (key_places p))) at (sixteens-back (sheet_header (event_count p)) [] (key_places p) (answers-sixteen (answers_from (laid fresh) (events_of p)))) in
    rw (made-count (event_count p) (joined (key_places p))) e
