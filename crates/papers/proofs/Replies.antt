-- Answers as four numbers, and their bytes. Assumes nothing.
use Prim.Native.Nat.{ℕ, zero, suc, ◌+◌, ◌*◌, ◌/◌, ◌%◌, ◌<◌}
use native.Mathlib.Omega.{arith}
use mathlib.Core.Path.{◌≡◌, refl, ◌∙◌}
use mathlib.Core.Bool.{Bool, true, false, ◌&&◌}
use lib.Dec.{eqb}
use mathlib.Core.List.{List, [], ◌∷◌}
use lib.ListN.{length, get_or}
use lib.Seq.{get_or-append-add}
use lib.ListN.{get_or-append}
use Rattle.std.proofs.lemmas.Bool.Decides.{nat_tests}
use Rattle.locks.specs.Lists.{agree}
use Rattle.rules.specs.declared.state.Answer.{Answer}
use Rattle.papers.specs.Bytes.{number16, number32, bytes32}
use Rattle.papers.specs.Answers.{answer_bytes, reply_bytes, Fitting}
use Rattle.rules.specs.Reply.{four_of}

-- ---- the four numbers of an answer have its bytes

pub reply-answer : (a : Answer) → Fitting a → reply_bytes (four_of a) ≡ answer_bytes a
unfolding answer_bytes
reply-answer a f =
    let n = a.number in
    let w = a.woken in
    let x = a.kind * 16777216 + n * 65536 + w in
    let hn : n < 256 = f.number in
    let hw : w < 65536 = f.woken in
    let he : a.ended < 65536 = f.ended in
    let h : x / 65536 ≡ a.kind * 256 + n = omega arith in
    let l : x % 65536 ≡ w = omega arith in
    let g : (a.kind * 256 + n) / 256 ≡ a.kind = omega arith in
    let m : (a.kind * 256 + n) % 256 ≡ n = omega arith in
    let p : a.ended * 65536 / 65536 ≡ a.ended = omega arith in
    let q : a.ended * 65536 % 65536 ≡ 0 = omega arith in
    rw (h, l, g, m, p, q)

-- ---- equal numbers are equal bytes

-- the bytes of number k
reply-byte : (a : List ℕ) (k i : ℕ) → k < length a → i < 4 → get_or (reply_bytes a) (4 * k + i) 0 ≡ get_or (bytes32 (get_or a k 0)) i 0
reply-byte [] k i h l = absurd (omega arith)
reply-byte (x ∷ a) zero i h l = let e : 4 * 0 + i ≡ i = omega arith in rw e (get_or-append (bytes32 x) (reply_bytes a) 0 i l)
reply-byte (x ∷ a) (suc k) i h l =
    let e : 4 * suc k + i ≡ 4 + (4 * k + i) = omega arith in
    rw e (get_or-append-add (bytes32 x) (reply_bytes a) (4 * k + i) 0 ∙ reply-byte a k i (omega arith) l)

-- four bytes, and the numbers that they are
four-same : (b c d e b' c' d' e' : ℕ) → c < 256 → d < 256 → e < 256 → c' < 256 → d' < 256 → e' < 256
    → eqb ((b' * 256 + c') * 65536 + (d' * 256 + e')) ((b * 256 + c) * 65536 + (d * 256 + e)) ≡ (eqb b b' && eqb c c' && eqb d d' && eqb e e')
four-same b c d e b' c' d' e' hc hd he hc' hd' he' = grind (arith, nat_tests)

number-same : (x b c d e : ℕ) → c < 256 → d < 256 → e < 256
    → eqb ((b * 256 + c) * 65536 + (d * 256 + e)) x ≡ (eqb (x / 65536 / 256) b && eqb (x / 65536 % 256) c && eqb (x % 65536 / 256) d && eqb (x % 65536 % 256) e)
number-same x b c d e hc hd he =
    let s : (x / 65536 / 256 * 256 + x / 65536 % 256) * 65536 + (x % 65536 / 256 * 256 + x % 65536 % 256) ≡ x = omega arith in
    rw s at (four-same (x / 65536 / 256) (x / 65536 % 256) (x % 65536 / 256) (x % 65536 % 256) b c d e (omega arith) (omega arith) (omega arith) hc hd he)

and-four : (t p q r s : Bool) → (t && p && q && r && s) ≡ (t && (p && q && r && s))
and-four true p q r s = refl
and-four false p q r s = refl

-- one number more
pub agree-next : (a y : List ℕ) (k : ℕ) → k < length a → ((i : ℕ) → get_or y i 0 < 256)
    → agree (4 * (k + 1)) (reply_bytes a) y ≡ (agree (4 * k) (reply_bytes a) y && eqb (number32 y (4 * k)) (get_or a k 0))
unfolding agree number32 number16
agree-next a y k h small =
    let e : 4 * (k + 1) ≡ suc (suc (suc (suc (4 * k)))) = omega arith in
    let e₁ : suc (4 * k) ≡ 4 * k + 1 = omega arith in
    let e₂ : suc (suc (4 * k)) ≡ 4 * k + 2 = omega arith in
    let e₃ : suc (suc (suc (4 * k))) ≡ 4 * k + 3 = omega arith in
    let f : 4 * k + 2 + 1 ≡ 4 * k + 3 = omega arith in
    let b₀ : get_or (reply_bytes a) (4 * k) 0 ≡ get_or a k 0 / 65536 / 256 = (let g : 4 * k + 0 ≡ 4 * k = omega arith in rw g at (reply-byte a k 0 h (omega arith))) in
    rw (
      e,
      e₃,
      e₂,
      e₁,
      f,
      b₀,
      reply-byte a k 1 h (omega arith),
      reply-byte a k 2 h (omega arith),
      reply-byte a k 3 h (omega arith),
      number-same (get_or a k 0) (get_or y (4 * k) 0) (get_or y (4 * k + 1) 0) (get_or y (4 * k + 2) 0) (get_or y (4 * k + 3) 0) (small (4 * k + 1)) (small (4 * k + 2)) (small (4 * k + 3)),
    )
    (and-four (agree (4 * k) (reply_bytes a) y) _ _ _ _)
