-- `locking::locking::first_bytes` meets its contract. Assumes nothing.
use Prim.Native.Nat.{ℕ, ◌*◌, ◌%◌, ◌^◌}
use native.Mathlib.Omega.{arith}
use mathlib.Core.Path.{sym, ap, ◌∙◌}
use lib.Seq.{take_all}
use Rattle.locks.specs.Words.{value}
use Rattle.locking.proofs.Sequences.{shifted, shift-pos, value-cut}
use Rattle.locking.proofs.locking.first_bytes.Goals as goal

pub nonzero_rem-result : goal.nonzero_rem-result
nonzero_rem-result c = shift-pos c.args.n (omega arith)

pub returns-then-n-lt8 : goal.returns-then-n-lt8
returns-then-n-lt8 c = λ xs b h e. rw (shifted c.args.n (omega arith)) (ap (λ (v : ℕ). v % 2 ^ (c.args.n * 8)) e ∙ value-cut c.args.n xs (omega arith) b)

pub returns-else-n-lt8 : goal.returns-else-n-lt8
returns-else-n-lt8 c = λ xs b h e. e ∙ ap value (sym (take_all c.args.n xs (omega arith)))
