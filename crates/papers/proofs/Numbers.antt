-- Numbers and their bytes: the definitions of Bytes beside the words of std. Assumes nothing.
use Rattle.std.proofs.Common.{ℕ, ◌+◌, ◌*◌, ◌/◌, ◌%◌, ◌<◌, ◌≤◌, ◌≡◌, List, ◌++◌, map, length, get_or, take, ◌∙◌, arith}
use mathlib.Core.List.{append-nil, map-append}
use borrow.Rule.Slice.PartMut.{put_mid}
use Rattle.std.proofs.lemmas.List.{take_more}
use Rattle.std.proofs.lemmas.Slice.{take-put_mid}
use Rattle.std.specs.Int.{w16, w32, to_be_bytes, from_be_bytes}
use Rattle.papers.specs.Bytes.{number16, number32, bytes16, bytes32, run, joined}
use Rattle.papers.proofs.Runs.{run-at, joined-both}

pub read16 : (f : List ℕ) (at : ℕ) → from_be_bytes w16 (run f at 2) ≡ number16 f at
unfolding number16
read16 f at = omega arith

pub read32 : (f : List ℕ) (at : ℕ) → from_be_bytes w32 (run f at 4) ≡ number32 f at
unfolding number32 number16
read32 f at =
    let e : at + 1 + 1 ≡ at + 2 = omega arith in
    let g : at + 2 + 1 ≡ at + 3 = omega arith in
    rw (e, g) (omega arith)

pub written16 : (x : ℕ) → x < 65536 → to_be_bytes w16 x ≡ bytes16 x
written16 x h =
    let e : x / 256 % 256 ≡ x / 256 = omega arith in
    rw e

pub written32 : (x : ℕ) → x < 4294967296 → to_be_bytes w32 x ≡ bytes32 x
written32 x h =
    let a : x / 16777216 % 256 ≡ x / 65536 / 256 = omega arith in
    let b : x % 65536 / 256 ≡ x / 256 % 256 = omega arith in
    let d : x % 65536 % 256 ≡ x % 256 = omega arith in
    rw (a, b, d)

-- a number in a run that holds it whole
pub within16 : (f : List ℕ) (at n i : ℕ) → i + 2 ≤ n → number16 (run f at n) i ≡ number16 f (at + i)
unfolding number16
within16 f at n i h =
    let e : at + (i + 1) ≡ at + i + 1 = omega arith in
    rw (run-at f at n i (omega arith), run-at f at n (i + 1) (omega arith), e)

pub within32 : (f : List ℕ) (at n i : ℕ) → i + 4 ≤ n → number32 (run f at n) i ≡ number32 f (at + i)
unfolding number32
within32 f at n i h =
    let e : at + (i + 2) ≡ at + i + 2 = omega arith in
    rw (within16 f at n i (omega arith), within16 f at n (i + 2) (omega arith), e)

-- the bytes of one number more, w for each
joined-more : (f : ℕ → List ℕ) (xs : List ℕ) (k : ℕ) → k < length xs → joined (map f (take k xs)) ++ f (get_or xs k 0) ≡ joined (map f (take (k + 1) xs))
joined-more f xs k h = rw (take_more xs k 0 h, map-append, joined-both, append-nil)

pub put-next : (f : ℕ → List ℕ) (w : ℕ) (xs bytes ys : List ℕ) (k m : ℕ) → k < length xs → w * k ≤ length bytes → length ys ≡ w → ys ≡ f (get_or xs k 0)
    → take (w * k) bytes ≡ joined (map f (take k xs))
    → take (w * (k + 1)) (put_mid (w * k) m bytes ys) ≡ joined (map f (take (k + 1) xs))
put-next f w xs bytes ys k m h room l e i =
    take-put_mid (w * k) m bytes ys (w * (k + 1)) (omega arith) room ∙ rw (i, e) (joined-more f xs k h)
