-- The child of fshell: numbers stored one after another in its place, and what they make. Assumes nothing.
use Prim.Native.Nat.{ℕ, zero, suc, ◌+◌, ◌*◌, ◌≤◌, ◌<◌}
use native.Mathlib.Omega.{arith}
use native.Mathlib.Numerals.{add-one}
use mathlib.Core.Path.{◌≡◌, refl, sym, ap, ◌∙◌}
use mathlib.Core.List.{List, [], ◌∷◌, ◌++◌}
use lib.ListN.{length, get_or, set}
use lib.Seq.{get_or-set_other, paste, paste-zero}
use Rattle.std.proofs.lemmas.List.Edits.{paste_more}
use Rattle.locks.specs.Pieces.{stores}
use Rattle.places.specs.Places.{PLACE}
use Rattle.calls.specs.Making.{run}

-- ---- stores in a place, one after another

stores-append : (w : ℕ) (m : List ℕ) (i : ℕ) (xs ys : List (ℕ × ℕ)) → stores w m i (xs ++ ys) ≡ stores w (stores w m i xs) i ys
stores-append w m i [] ys = refl
stores-append w m i (x ∷ xs) ys = stores-append w (set m (i * w + x.0) x.1) i xs ys

-- a place ahead of it is as it was
stores-ahead : (m : List ℕ) (i j : ℕ) (ss : List (ℕ × ℕ)) (k : ℕ) → i < j → k < PLACE → get_or (stores PLACE m j ss) (i * PLACE + k) 0 ≡ get_or m (i * PLACE + k) 0
stores-ahead m i j [] k l b = refl
stores-ahead m i j (s ∷ ss) k l b =
    stores-ahead (set m (j * PLACE + s.0) s.1) i j ss k l b
    ∙ get_or-set_other m (j * PLACE + s.0) (i * PLACE + k) s.1 0 (λ (e : i * PLACE + k ≡ j * PLACE + s.0). omega arith)

pub read-ahead : (d : List ℕ) (i j : ℕ) (ss : List (ℕ × ℕ)) (k : ℕ) {m : List ℕ} → m ≡ stores PLACE d j ss → i < j → k < PLACE → get_or m (i * PLACE + k) 0 ≡ get_or d (i * PLACE + k) 0
read-ahead d i j ss k e l b = ap (λ (x : List ℕ). get_or x (i * PLACE + k) 0) e ∙ stores-ahead d i j ss k l b

-- one more
pub run_more : (d : List ℕ) (base : ℕ) (g : ℕ → ℕ) (j k : ℕ) {m : List ℕ} {v : ℕ} → m ≡ stores PLACE d j (run base g k) → v ≡ g k
    → set m (j * PLACE + (base + k)) v ≡ stores PLACE d j (run base g (k + 1))
run_more d base g j k e f = rw (e, f, add-one k) (sym (stores-append PLACE d j (run base g k) ((base + k, g k) ∷ [])))

-- a copy of n numbers
pub run-paste : (d s : List ℕ) (base : ℕ) (g : ℕ → ℕ) (j n : ℕ) → j * PLACE + base + n ≤ length d → n ≤ length s → ((k : ℕ) → k < n → get_or s k 0 ≡ g k)
    → paste d (j * PLACE + base) s n ≡ stores PLACE d j (run base g n)
run-paste d s base g j zero l h f = sym (paste-zero d (j * PLACE + base) s)
run-paste d s base g j (suc n) l h f =
    let at = j * PLACE + base in
    let m = paste d at s n in
    let before : m ≡ stores PLACE d j (run base g n) = run-paste d s base g j n (omega arith) (omega arith) (λ k b. f k (omega arith)) in
    let e : at + n ≡ j * PLACE + (base + n) = omega arith in
    let after : paste d at s (n + 1) ≡ stores PLACE d j (run base g (n + 1)) = sym (paste_more d at s n 0 (omega arith) (omega arith)) ∙ ap (λ (x : ℕ). set m x (get_or s n 0)) e ∙ run_more d base g j n before (f n (omega arith)) in
    rw (add-one n) at after

pub run-same : (base : ℕ) (g h : ℕ → ℕ) (n : ℕ) → ((k : ℕ) → k < n → g k ≡ h k) → run base g n ≡ run base h n
run-same base g h zero e = refl
run-same base g h (suc n) e = rw (run-same base g h n (λ k l. e k (omega arith)), e n (omega arith))
