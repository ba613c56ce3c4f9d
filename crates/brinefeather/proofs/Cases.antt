-- The desk's numbers and items hold, by computation, one `refl` for each. Assumes nothing.
use mathlib.Core.Path.{refl}
use Rattle.papers.specs.Bytes.{number16, number32}
use Rattle.papers.specs.Entries.{entry_at}
use Rattle.locks.proofs.Named.{Each, each_same}
use Rattle.brinefeather.specs.Cases.{numbers, NumberCases, ItemCases}

numbers-hold : Each (λ n. n.comes) (λ n. n.should) numbers
unfolding numbers
numbers-hold = (refl, (refl, (refl, (refl, (refl, (refl, (refl, (refl, (refl, (refl, (refl, (refl, (refl, (refl, (refl, (refl, (refl, (refl, (refl, (refl, (refl, (refl, (refl, (refl, (refl, (refl, (refl, (refl, (refl, (refl, (refl, (refl, (refl, (refl, (refl, (refl, (refl, (refl, (refl, (refl, tt))))))))))))))))))))))))))))))))))))))))

pub number-cases : NumberCases
number-cases = each_same _ _ numbers numbers-hold

pub item-cases : ItemCases
unfolding number16 number32 entry_at
item-cases = record { short-event = refl; no-event = refl; half-name = refl; long-event = refl; short-sequence = refl; no-sequence = refl; long-sequence = refl }
