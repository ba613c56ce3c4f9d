-- The refusals of a call, in their order, where it is known whether its item is misplaced or full. Assumes nothing.
use Rattle.std.specs.Prelude.{ℕ, ◌+◌, Bool, cond, List, length, ltb, Result, Ok, Err, ⊤}
use Rattle.forms.specs.declared.items.Writer.{Writer}
use Rattle.forms.specs.declared.items.Refusal.{Refusal}
use Rattle.forms.specs.declared.items.Refusal.TheVariants.{Badpaper, Order, Full, Noroom}
use Rattle.forms.specs.Adding.{length_for, is_broken}

-- the item makes the paper so many bytes longer
abbrev pub checked : Writer → List ℕ → Bool → Bool → ℕ → Result ⊤ Refusal
checked w buffer misplaced full more =
    cond (is_broken w buffer) (Err Badpaper)
    (cond misplaced (Err Order)
    (cond full (Err Full)
    (cond (ltb (length buffer) (length_for w + more)) (Err Noroom) (Ok tt))))
