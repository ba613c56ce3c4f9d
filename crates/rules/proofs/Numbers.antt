-- The numbers of an answer fit where it has them: a refusal's number a byte, a mask of 16 processes two. Assumes nothing.
use Rattle.std.proofs.Common.{suc, ◌+◌, ◌*◌, ◌^◌, ◌≤◌, ◌<◌, ◌≡◌, Bool, true, false, cond, List, [], ◌∷◌, length, arith}
use native.Mathlib.Nat.{pow-succ'}
use lib.Pow.{pow_mono}
use Rattle.locks.specs.Lists.{mask}
use Rattle.rules.specs.Outcome.{number_of}
use Rattle.rules.specs.declared.outcome.Refusal.{Refusal}
use Rattle.rules.specs.declared.outcome.Refusal.TheVariants.{Badstate, Badcaller, Asleep, Trap, Badcall, Notmodelled, Priv, Noproc, Nomemory, Held, Locked, Deadlock, Lcktable, Notlocked}

pub number-small : (r : Refusal) → number_of r < 256
number-small Badstate = omega arith
number-small Badcaller = omega arith
number-small Asleep = omega arith
number-small Trap = omega arith
number-small Badcall = omega arith
number-small Notmodelled = omega arith
number-small Priv = omega arith
number-small Noproc = omega arith
number-small Nomemory = omega arith
number-small Held = omega arith
number-small Locked = omega arith
number-small Deadlock = omega arith
number-small Lcktable = omega arith
number-small Notlocked = omega arith

pub mask_lt : {A : Type 0} (f : A → Bool) (xs : List A) → mask f xs < 2 ^ length xs
mask_lt f [] = omega arith
mask_lt f (x ∷ xs) = go (f x) (mask_lt f xs) (pow-succ' 2 (length xs))
  where
    go : (b : Bool) → mask f xs < 2 ^ length xs → 2 ^ suc (length xs) ≡ 2 * 2 ^ length xs → cond b 1 0 + 2 * mask f xs < 2 ^ suc (length xs)
    go true h e = rw e (omega arith)
    go false h e = rw e (omega arith)

pub mask-small : {A : Type 0} (f : A → Bool) (xs : List A) → length xs ≤ 16 → mask f xs < 65536
mask-small f xs b = let q : 2 ^ length xs ≤ 65536 = pow_mono b in omega (arith, mask_lt f xs, q)
