-- What reads that come one after another give. Assumes nothing.
use Rattle.std.proofs.Common.{◌≡◌, ℕ, ◌+◌, ◌-◌, ◌≤◌, List, ◌++◌, length, take, drop, sym, ap, ◌∙◌}
use Rattle.std.proofs.Math.Seq.{take-append-add, length-take-le}
use Rattle.std.proofs.lemmas.List.{take-append-le}
use borrow.Rule.Slice.PartMut.{put_mid}

-- n bytes of y stand behind the first k of x now
pub take_read : (x y : List ℕ) (k n : ℕ) → k ≤ length x → n ≤ length y → take (k + n) (put_mid k (length x - k) x y) ≡ take k x ++ take n y
take_read x y k n h l =
    let e : length (take k x) ≡ k = length-take-le k x h in
    let r = y ++ drop (length x - k) (drop k x) in
    ap (λ j. take (j + n) (take k x ++ r)) (sym e) ∙ take-append-add (take k x) r n ∙ ap (λ z. take k x ++ z) (take-append-le n y _ l)
