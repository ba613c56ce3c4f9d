-- The measures of the cycle of calls {owner_to_row, row_to_owners} are made of the count of the processes not yet opened: twice that for
-- `row_to_owners`, which opens one before it calls `owner_to_row`, and one more for `owner_to_row`. Assumes nothing.
use Rattle.std.proofs.Common.{◌+◌, ◌≡◌, ◌*◌, false}
use Rattle.chains.specs.Search.{owner_at}
use Rattle.chains.proofs.Opened.{shut, Toured}
use Rattle.chains.proofs.Shown.{RowLeads, PairLeads}
use Rattle.chains.proofs.search.+owner_to_row_row_to_owners.Given as goal

abbrev pub decreases-owner_to_row : goal.decreases-owner_to_row
decreases-owner_to_row l = 2 * shut l.opened.now + 1

abbrev pub decreases-row_to_owners : goal.decreases-row_to_owners
decreases-row_to_owners l = 2 * shut l.opened.now

abbrev pub invariant-owner_to_row-loop-a : goal.invariant-owner_to_row-loop-a
invariant-owner_to_row-loop-a l =
    (l.found ≡ false) × Toured l.t l.last (PairLeads l.t l.last (owner_at l.t l.i) l.w) l.a l.initial.opened l.opened

abbrev pub invariant-owner_to_row-pairs : goal.invariant-owner_to_row-pairs
invariant-owner_to_row-pairs l =
    (l.found ≡ false) × Toured l.t l.last (RowLeads l.t l.last (owner_at l.t l.i)) l.w l.initial.opened l.opened
