-- The kinds of events by their numbers. Assumes nothing.
use Rattle.std.specs.Prelude.{ℕ, ◌≡◌}
use Rattle.turns.specs.declared.kinds.Asked.TheVariants.{Call, Take, Report}
use Rattle.turns.specs.declared.kinds.EventKind.{EventKind}
use Rattle.turns.specs.declared.kinds.EventKind.TheVariants.{Tick, OfCaller}

-- "Kind: 1 call, 2 tick, 3 take (the next trap), 4 wake report"
abbrev pub IsKind : ℕ → EventKind → Type 0
IsKind n (OfCaller Call) = n ≡ 1
IsKind n Tick = n ≡ 2
IsKind n (OfCaller Take) = n ≡ 3
IsKind n (OfCaller Report) = n ≡ 4
