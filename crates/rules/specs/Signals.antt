-- A process ends; a signal arrives; take. Assumes nothing.
use Rattle.std.specs.Prelude.{ℕ, ◌+◌, ◌-◌, ◌^◌, cond, not, get_or, eqb}
use Rattle.std.specs.Int.Bits.{bit_or, bit_xor}
use Rattle.std.specs.Int.Count.{count_trailing_zeros}
use Rattle.locks.specs.Lists.{keep, is_zero}
use Rattle.locks.specs.Rows.{without_owner, without_waiting}
use Rattle.rules.specs.State.{Machine, abort, ignore, by_signal, has, sleeps, reaction_to, with_reaction, with_trap, with_signals, woken_by, process_of, put, rows_left}
use Rattle.rules.specs.Outcome.{Outcome, done, answered, either}
use Rattle.rules.specs.declared.state.Process.{Process}

-- "PIDs are never used again; places are." The process of that PID is no more, and those behind it move up
unfoldable pub gone : ℕ → Machine → Machine
gone n m = record { procs = keep (λ p. not (has n p)) m.procs; rows = m.rows; next = m.next }

-- "All rows of the process go."
unfoldable pub ends : ℕ → Machine → Machine
ends n m = gone n (rows_left (without_owner n m.rows) m)

-- "a sleeper wakes", with "the seconds that were left of a timed sleep"
unfoldable pub roused : Process → Process
roused p = cond (sleeps p) (woken_by by_signal p.rest.seconds p) p

-- "it becomes pending with its address, that reaction becomes ignore .., and a sleeper wakes"; "the later address replaces the earlier"
unfoldable pub trapped : ℕ → ℕ → Process → Process
trapped s a p =
    roused (with_signals (with_reaction s ignore (with_trap (bit_or p.signals.pending (2 ^ (s - 1))) s a p.signals)) p)

-- "Ignored: nothing changes. Abort: as exit. Trap: .. a lock sleeper loses its row."
unfoldable pub reacts : ℕ → ℕ → ℕ → Machine → Machine
reacts s a n m =
    cond (eqb a ignore) m
    (cond (eqb a abort) (ends n m)
    (rows_left (without_waiting n m.rows) (put (trapped s a (process_of m n)) m)))

-- signal s arrives at the process n
unfoldable pub arrives : ℕ → ℕ → Machine → Machine
arrives s n m = reacts s (reaction_to s (process_of m n)) n m

-- ---- take

-- the trap of signal s is handed out
unfoldable pub takes : ℕ → Process → Outcome Process
takes s p =
    answered done s (get_or p.signals.traps (s - 1) 0)
    (with_signals (with_trap (bit_xor p.signals.pending (2 ^ (s - 1))) s 0 p.signals) p)

-- "Take gives the lowest pending signal in D3 and its address in A0, and clears both, or gives zeros; which bit of the pending set is lowest is what counts."
unfoldable pub taken : Process → Outcome Process
taken p = either (is_zero p.signals.pending) (answered done 0 0 p) (takes (count_trailing_zeros 8 p.signals.pending + 1) p)
