-- The worked cases (a) to (k) of document 01, the slips (s1) to (s4) that it warns of, and more (t1) to (t47), as one table. Assumes nothing.
use Rattle.std.specs.Prelude.{ℕ, ◌-◌, ◌^◌, ◌≡◌, Bool, ◌&&◌, List, [], ◌∷◌, ◌++◌, map, length, replicate, eqb}
use Prim.Native.String.{String}
use Rattle.locks.specs.Lists.{keep, is_zero}
use Rattle.locks.specs.Rows.{owns, waiting_of}
use Rattle.rules.specs.State.{Machine, laid, fresh, abort, by_time, by_signal, with_alarm, process_of}
use Rattle.rules.specs.Outcome.{number_of, refusal, badstate, badcaller, asleep, trap, badcall, notmodelled, priv, noproc, nomemory, held, locked, deadlock, lcktable, notlocked}
use Rattle.rules.specs.Calls.{class_of}
use Rattle.rules.specs.Script.{event, call, named, indirectly, stuffed, lock, unlock, tick, take_trap, wake_report, on_alarm, alarm, sleep, pause, fshell, set_priority, becomes, kill, on_signal, gives, ok, sleeping, moves, ending, A, B, C, D, x, y, ab, abc, sixteen, shared, unshared, shared_if, unshared_if, count, Case, ◌gets◌, comes, should, tale, story, story_then}
use Rattle.rules.specs.Odd.{other, two, with1, signalled, sounds, broken}
use Rattle.rules.specs.declared.state.Process.{Process}
use Rattle.rules.specs.declared.state.State.{State}
use Rattle.rules.specs.declared.state.Event.{Event}
use Rattle.rules.specs.declared.state.Answer.{Answer}
use Rattle.rules.specs.declared.calls.OwnCall.TheVariants.{GetUser, SetUser, GetGroup, SetGroup, GetPrior, SetPrior, GetProc, Signal, Sleep, Alarm, Pause}
use Rattle.rules.specs.declared.calls.Call.TheVariants.{Own, Lock, Unlock, Kill, Exit, FShell, Indirect}
use Rattle.rules.specs.declared.calls.Class.{Class}
use Rattle.rules.specs.declared.calls.Class.TheVariants.{Modelled, NotModelled, BadCall}

-- the process has one row, and it is held
abbrev holds : ℕ → Machine → Bool
holds n m = eqb (length (keep (owns n) m.rows)) 1 && is_zero (length (waiting_of n m.rows))

-- A locks k sequences of one byte, from 1 on
abbrev fills : ℕ → List (Event × Answer)
fills k = map (λ n. lock A unshared (n ∷ []) gets ok) (count 1 k)

-- A and B hold x shared; all unshared, A holds x, B holds y and A waits for y
abbrev both_shared : List (Event × Answer)
both_shared = lock A shared x gets ok ∷ lock B shared x gets ok ∷ []

abbrev crossed : List (Event × Answer)
crossed = lock A unshared x gets ok ∷ lock B unshared y gets ok ∷ lock A unshared y gets sleeping ∷ []

-- a signal cuts a sleep of A short, with ten seconds left
abbrev cut_short : List (Event × Answer)
cut_short =
    on_signal A 7 0x3000 gets gives 0 1
    ∷ sleep A 10 gets sleeping
    ∷ kill 1 7 A gets moves 0b10 0
    ∷ take_trap A gets gives 7 0x3000
    ∷ []

-- the last wake of A and the seconds left are still those of `cut_short`
abbrev keeps_left : Machine → Bool
keeps_left m = eqb (process_of m A).rest.wake by_signal && eqb (process_of m A).rest.left 10

-- the signals that can be trapped, and an address for each
abbrev six : List (ℕ × ℕ)
six = (1, 0x1001) ∷ (2, 0x1002) ∷ (4, 0x1004) ∷ (5, 0x1005) ∷ (6, 0x1006) ∷ (7, 0x1007) ∷ []

-- process 2 traps signals 1 and 5, and has a trap of each pending already, at another address
abbrev twice : Process
twice = signalled (0x2000 ∷ abort ∷ abort ∷ abort ∷ 0x5000 ∷ abort ∷ abort ∷ []) 0b10001 (0x1000 ∷ 0 ∷ 0 ∷ 0 ∷ 0x1500 ∷ 0 ∷ 0 ∷ []) other

unfoldable pub stories : List Case
stories =
    -- (a) lock length 0: badcall
    story "(a) lock length 0" (named 0x3E A unshared 0 x gets refusal badcall ∷ [])
    -- (b) 17: badcall
    ∷ story "(b) lock length 17" (named 0x3E A unshared 17 x gets refusal badcall ∷ [])
    -- (c) length 1 and 16: done
    ∷ story "(c) lock length 1 and 16" (lock A unshared x gets ok ∷ lock A unshared sixteen gets ok ∷ [])
    -- (d) A shared, B shared: both held
    ∷ story_then "(d) both held, shared" (λ m. holds A m && holds B m) both_shared
    -- (e) then C unshared: asleep; (f) then D shared: asleep; (g) A and B unlock: C wakes, D does not
    ∷ story_then "(e) (f) (g) sharing, and who wakes" (holds C)
    (both_shared
    ++ lock C unshared x gets sleeping
    ∷ lock D shared x gets sleeping
    ∷ unlock A x gets ok
    ∷ unlock B x gets moves 0b1000 0
    ∷ wake_report D gets refusal asleep
    ∷ take_trap D gets refusal asleep
    ∷ call 0x0F D 0 0 0 0 gets refusal asleep
    ∷ [])
    -- (h) deadlock; (i) B asks conditionally: locked
    ∷ story "(h) (i) deadlock, or locked where conditional" (crossed ++ lock B unshared x gets refusal deadlock ∷ lock B unshared_if x gets refusal locked ∷ [])
    -- (j) priority -1 unprivileged: priv; 41: badcall. And one not negative: done
    ∷ story "(j) priorities"
    (becomes A 100 gets ok
    ∷ set_priority A (2 ^ 32 - 1) gets refusal priv
    ∷ set_priority A (2 ^ 32 - 40) gets refusal priv
    ∷ set_priority A (2 ^ 32 - 41) gets refusal badcall
    ∷ set_priority A 41 gets refusal badcall
    ∷ set_priority A 7 gets ok
    ∷ call 0x38 A 0 0 0 0 gets gives 7 0
    ∷ set_priority A 3 gets ok
    ∷ [])
    -- (k) signal 5 trapped, alarm and sleep both 1, one tick: woken by time, trap then pending. The reaction has become ignore
    ∷ story "(k) alarm and sleep in one tick"
    (on_alarm A 0x1000 gets gives 0 1
    ∷ alarm A 1 gets ok
    ∷ sleep A 1 gets sleeping
    ∷ tick gets moves 0b10 0
    ∷ wake_report A gets gives 0 3
    ∷ call 0x3A A 0 0 0 0 gets refusal trap
    ∷ call 0x0F A 0 0 0 0 gets refusal trap
    ∷ take_trap A gets gives 5 0x1000
    ∷ take_trap A gets ok
    ∷ on_alarm A 0 gets gives 0 1
    ∷ [])
    -- (s1) "AB" and "ABC" differ; "AB", "AB" and the first two bytes of "ABC" do not
    ∷ story "(s1) AB and ABC differ"
    (lock A unshared abc gets ok
    ∷ lock B unshared ab gets ok
    ∷ lock C unshared ab gets sleeping
    ∷ named 0x3E D unshared 2 abc gets sleeping
    ∷ call 0x3A A 0 0 0 0 gets gives A 0
    ∷ [])
    -- (s2) a new shared request waits behind an unshared waiter, and is refused where it is conditional
    ∷ story "(s2) a new shared request waits behind an unshared waiter"
    (lock A shared x gets ok
    ∷ lock B unshared x gets sleeping
    ∷ lock C shared_if x gets refusal locked
    ∷ lock C shared x gets sleeping
    ∷ unlock A x gets moves 0b100 0
    ∷ [])
    -- (s3) a child does not inherit its parent's trap: abort. It inherits ignore, ids and priority, and the masks decide where D1 has 1
    ∷ story "(s3) a child does not inherit a trap"
    (on_alarm A 0x1000 gets gives 0 1
    ∷ call 0x35 A 1 3 7 0 gets ok
    ∷ call 0x37 A 1 3 8 0 gets ok
    ∷ set_priority A 5 gets ok
    ∷ fshell A 0 0 gets gives 6 0
    ∷ call 0x34 6 0 1 0 0 gets gives 7 0
    ∷ call 0x36 6 0 1 0 0 gets gives 8 0
    ∷ call 0x38 6 0 0 0 0 gets gives 5 0
    ∷ on_alarm 6 1 gets gives 0 0
    ∷ call 0x40 6 0 7 0 0 gets gives 0 1
    ∷ fshell A 0b10000 0b10000 gets gives 7 0
    ∷ on_alarm 7 0 gets gives 0 1
    ∷ [])
    -- (s4) a wait behind a waiting neighbour is no deadlock where no chain returns
    ∷ story "(s4) a waiting neighbour is no deadlock"
    (lock C unshared x gets ok
    ∷ lock A unshared x gets sleeping
    ∷ lock B unshared y gets ok
    ∷ lock B unshared x gets sleeping
    ∷ unlock C x gets moves 0b10 0
    ∷ unlock A x gets moves 0b100 0
    ∷ [])
    -- (t1) the conditional forms of lock; arguments before held; a sequence must be named; unlock does not read D2
    ∷ story "(t1) the forms of lock"
    (lock A shared_if x gets ok
    ∷ lock B shared_if x gets ok
    ∷ lock C unshared_if x gets refusal locked
    ∷ lock C unshared_if y gets ok
    ∷ lock D shared_if y gets refusal locked
    ∷ lock D 4 y gets refusal badcall
    ∷ lock A unshared_if x gets refusal held
    ∷ lock A 4 x gets refusal badcall
    ∷ call 0x3E A 0 unshared 1 0 gets refusal badcall
    ∷ call 0x3F A 0 0 1 0 gets refusal badcall
    ∷ named 0x3F A 0 0 x gets refusal badcall
    ∷ named 0x3F A 0 17 x gets refusal badcall
    ∷ named 0x3F A 9 1 x gets ok
    ∷ unlock A x gets refusal notlocked
    ∷ [])
    -- (t2) a full table: held, locked, deadlock, lcktable, in this order
    ∷ story "(t2) a full table: held, locked, deadlock, lcktable"
    (fills 29
    ++ lock B unshared y gets ok
    ∷ lock C unshared x gets ok
    ∷ lock A unshared y gets sleeping
    ∷ lock B shared_if y gets refusal held
    ∷ lock B shared_if (1 ∷ []) gets refusal locked
    ∷ lock B shared (1 ∷ []) gets refusal deadlock
    ∷ lock B shared x gets refusal lcktable
    ∷ lock B shared (40 ∷ []) gets refusal lcktable
    ∷ lock B shared_if (40 ∷ []) gets refusal lcktable
    ∷ [])
    -- (t3) two alarms ring in one tick, the lower PID's holding the row: the other is granted first, and keeps its lock
    ∷ story "(t3) two alarms in one tick, the holder first"
    (on_alarm A 0 gets gives 0 1
    ∷ on_alarm B 0x2000 gets gives 0 1
    ∷ lock A unshared x gets ok
    ∷ alarm A 1 gets ok
    ∷ alarm B 1 gets ok
    ∷ lock B unshared x gets sleeping
    ∷ tick gets moves 0b100 0b10
    ∷ wake_report B gets gives 0 1
    ∷ take_trap B gets gives 5 0x2000
    ∷ unlock B x gets ok
    ∷ [])
    -- (t4) two alarms ring in one tick, the lower PID's waiting: the signal ends its wait first
    ∷ story "(t4) two alarms in one tick, the waiter first"
    (on_alarm A 0x1000 gets gives 0 1
    ∷ on_alarm B 0 gets gives 0 1
    ∷ lock B unshared x gets ok
    ∷ alarm A 1 gets ok
    ∷ alarm B 1 gets ok
    ∷ lock A unshared x gets sleeping
    ∷ tick gets moves 0b10 0b100
    ∷ wake_report A gets gives 0 2
    ∷ take_trap A gets gives 5 0x1000
    ∷ unlock A x gets refusal notlocked
    ∷ [])
    -- (t5) the classes of call numbers, the indirect call, and the event kinds
    ∷ story "(t5) classes of call numbers, event kinds"
    (map (λ n. call n A 0 0 0 0 gets refusal notmodelled) (0x00 ∷ 0x0E ∷ 0x10 ∷ 0x19 ∷ 0x1B ∷ 0x1C ∷ 0x20 ∷ 0x29 ∷ 0x30 ∷ 0x33 ∷ 0x45 ∷ 0x47 ∷ 0x49 ∷ 0x4B ∷ 0x4C ∷ 0x4E ∷ 0x50 ∷ 0x56 ∷ [])
    ++ map (λ n. call n A 0 0 0 0 gets refusal badcall) (0x0F ∷ 0x1A ∷ 0x1D ∷ 0x1F ∷ 0x2A ∷ 0x2F ∷ 0x3B ∷ 0x3D ∷ 0x4A ∷ 0x4D ∷ 0x4F ∷ 0x57 ∷ 0xFF ∷ [])
    ++ event 1 0x51 A 0x3A 0 0 0 0 gets gives A 0
    ∷ event 1 0x51 A 0x51 0 0 0 0 gets refusal badcall
    ∷ event 1 0x51 A 0x100 0 0 0 0 gets refusal badcall
    ∷ event 1 0x51 A 0 0 0 0 0 gets refusal notmodelled
    ∷ event 0 0x3A A 0 0 0 0 0 gets refusal badcall
    ∷ event 5 0x3A 99 0 0 0 0 0 gets refusal badcall
    ∷ event 2 0xFF 99 9 9 9 9 9 gets ok
    ∷ call 0x0F 99 0 0 0 0 gets refusal badcaller
    ∷ [])
    -- (t6) callers and targets; a kill of oneself; a timed sleep that a signal cuts short; PIDs are not used again
    ∷ story "(t6) callers, targets, a signal that cuts a sleep short, PIDs"
    (call 0x3A 6 0 0 0 0 gets refusal badcaller
    ∷ take_trap 6 gets refusal badcaller
    ∷ wake_report 6 gets refusal badcaller
    ∷ becomes A 100 gets ok
    ∷ call 0x41 A 0 0 B 0 gets refusal badcall
    ∷ call 0x41 A 0 8 B 0 gets refusal badcall
    ∷ call 0x41 A 0 7 1 0 gets refusal badcall
    ∷ call 0x41 A 0 7 65536 0 gets refusal badcall
    ∷ call 0x41 A 0 7 65535 0 gets refusal noproc
    ∷ call 0x41 A 0 7 B 0 gets refusal priv
    ∷ call 0x40 B 0 7 0 0x3000 gets gives 0 1
    ∷ sleep B 100000 gets sleeping
    ∷ tick gets ok
    ∷ call 0x41 1 0 7 B 0 gets moves 0b100 0
    ∷ wake_report B gets gives 99999 2
    ∷ take_trap B gets gives 7 0x3000
    ∷ lock C unshared x gets ok
    ∷ lock B unshared x gets sleeping
    ∷ unlock C x gets moves 0b100 0
    ∷ wake_report B gets gives 0 1
    ∷ call 0x41 A 0 3 A 0 gets ending 0 0b10
    ∷ call 0x46 1 0 0 0 0 gets refusal badcall
    ∷ fshell 1 0 0 gets gives 6 0
    ∷ [])
    -- (t7) an exit takes all rows of the process, and the next of each sequence wakes; those behind it move up
    ∷ story "(t7) an exit takes all rows, and those behind move up"
    (lock A unshared x gets ok
    ∷ lock A unshared y gets ok
    ∷ lock B unshared x gets sleeping
    ∷ lock C shared y gets sleeping
    ∷ call 0x46 A 0 0 0 0 gets ending 0b1100 0b10
    ∷ lock D unshared y gets sleeping
    ∷ unlock C y gets moves 0b1000 0
    ∷ [])
    -- (t8) who may signal: equal effective user ids, or privileged. Two traps pending: the lowest is taken first
    ∷ story "(t8) who may signal; the lowest trap is taken first"
    (becomes A 100 gets ok
    ∷ becomes B 100 gets ok
    ∷ call 0x40 B 0 2 0 0x2000 gets gives 0 1
    ∷ call 0x40 B 0 7 0 0x7000 gets gives 0 1
    ∷ call 0x41 A 0 7 B 0 gets ok
    ∷ call 0x41 A 0 2 B 0 gets ok
    ∷ take_trap B gets gives 2 0x2000
    ∷ take_trap B gets gives 7 0x7000
    ∷ take_trap B gets ok
    ∷ call 0x41 C 0 2 B 0 gets ok
    ∷ call 0x41 B 0 2 C 0 gets refusal priv
    ∷ [])
    -- (t9) a sleeper is killed; another wakes and ends in the same event
    ∷ story "(t9) a sleeper is killed; another wakes and ends at once"
    (sleep B 9 gets sleeping
    ∷ call 0x41 1 0 3 B 0 gets moves 0 0b100
    ∷ on_alarm A 0 gets gives 0 1
    ∷ alarm A 1 gets ok
    ∷ sleep A 1 gets sleeping
    ∷ tick gets moves 0 0b10
    ∷ [])
    -- (t10) an alarm that rings into an ignored signal is off afterwards; a later alarm replaces an earlier one, and 0 turns it off
    ∷ story "(t10) an alarm that rings into an ignored signal" (alarm A 1 gets ok ∷ tick gets ok ∷ on_alarm A 0 gets gives 0 1 ∷ tick gets ok ∷ [])
    ∷ story "(t10) alarms: replaced, off"
    (on_alarm A 0 gets gives 0 1
    ∷ alarm A 1 gets ok
    ∷ alarm A 0 gets ok
    ∷ tick gets ok
    ∷ alarm A 1 gets ok
    ∷ alarm A 3 gets ok
    ∷ tick gets ok
    ∷ tick gets ok
    ∷ tick gets moves 0 0b10
    ∷ [])
    -- (t11) ids: codes, ranges, and priv only for the value in D3
    ∷ story "(t11) ids"
    (call 0x35 A 1 3 7 0 gets ok
    ∷ call 0x34 A 0 1 0 0 gets gives 7 0
    ∷ call 0x34 A 0 3 0 0 gets refusal badcall
    ∷ call 0x37 A 2 3 65536 0 gets refusal badcall
    ∷ call 0x37 A 2 3 65535 0 gets ok
    ∷ call 0x36 A 0 2 0 0 gets gives 65535 0
    ∷ call 0x37 A 0 1 0 0 gets ok
    ∷ call 0x36 A 0 0 0 0 gets gives 0 0
    ∷ call 0x35 A 3 0 0 0 gets refusal badcall
    ∷ call 0x35 A 0 4 0 0 gets refusal badcall
    ∷ call 0x35 A 0 1 0 0 gets ok
    ∷ call 0x34 A 0 0 0 0 gets gives 7 0
    ∷ call 0x35 A 0 3 0 0 gets refusal priv
    ∷ call 0x35 A 0 3 65536 0 gets refusal badcall
    ∷ call 0x35 A 0 2 70000 0 gets ok
    ∷ call 0x34 A 0 0 0 0 gets gives 0 0
    ∷ [])
    -- (t12) a pause, which an ignored signal does not end; sleep 0; signals of process 1 and kill have no other reaction; masks of fshell
    ∷ story "(t12) pause, sleep 0, signal, masks of fshell"
    (call 0x40 A 0 7 0 0x3000 gets gives 0 1
    ∷ sleep A 0 gets ok
    ∷ call 0x44 A 0 0 0 0 gets sleeping
    ∷ call 0x41 1 0 6 A 0 gets ok
    ∷ call 0x41 1 0 7 A 0 gets moves 0b10 0
    ∷ wake_report A gets gives 0 2
    ∷ call 0x40 1 0 5 0 0 gets refusal badcall
    ∷ call 0x40 1 0 5 0 1 gets refusal badcall
    ∷ call 0x40 1 0 7 0 0x1000 gets refusal badcall
    ∷ call 0x40 B 0 0 0 1 gets refusal badcall
    ∷ call 0x40 B 0 3 0 1 gets refusal badcall
    ∷ call 0x40 B 0 8 0 1 gets refusal badcall
    ∷ fshell B 256 0 gets refusal badcall
    ∷ fshell B 0 256 gets refusal badcall
    ∷ fshell B 0b11111111 0b11111110 gets gives 6 0
    ∷ call 0x40 6 0 1 0 0 gets gives 0 0
    ∷ call 0x40 6 0 2 0 0 gets gives 0 1
    ∷ call 0x41 1 0 3 6 0 gets moves 0 0b100000
    ∷ [])
    -- (t13) falling asleep leaves the last wake as it was
    ∷ story_then "(t13) falling asleep leaves the last wake" (λ m. eqb (process_of m A).rest.wake by_time) (sleep A 1 gets sleeping ∷ tick gets moves 0b10 0 ∷ call 0x44 A 0 0 0 0 gets sleeping ∷ [])
    -- (t14) sixteen live processes, and no memory for one more
    ∷ story_then "(t14) sixteen processes: no memory" (λ m. eqb (length m.procs) 16)
    (map (λ n. fshell 1 0 0 gets gives n 0) (6 ∷ 7 ∷ 8 ∷ 9 ∷ 10 ∷ 11 ∷ 12 ∷ 13 ∷ 14 ∷ 15 ∷ 16 ∷ [])
    ++ fshell 1 0 0 gets refusal nomemory
    ∷ fshell 1 256 0 gets refusal badcall
    ∷ [])
    ∷ []

unfoldable pub further : List Case
further =
    -- (t15) the last PID
    tale "(t15) the last PID" (two other [] 65535) (fshell 1 0 0 gets gives 65535 0 ∷ fshell 1 0 0 gets refusal nomemory ∷ [])
    -- (t17) "If a trap of that type is already pending, the later address replaces the earlier", by kill and by an alarm; another's stays
    ∷ tale "(t17) a trap on top of a trap, by kill" (with1 twice)
    (kill 1 1 2 gets ok
    ∷ take_trap 2 gets gives 1 0x2000
    ∷ take_trap 2 gets gives 5 0x1500
    ∷ take_trap 2 gets ok
    ∷ on_signal 2 1 0 gets gives 0 1
    ∷ on_signal 2 5 0 gets gives 0 0x5000
    ∷ [])
    ∷ tale "(t17) a trap on top of a trap, by an alarm" (with1 (with_alarm 1 twice))
    (tick gets ok
    ∷ take_trap 2 gets gives 1 0x1000
    ∷ take_trap 2 gets gives 5 0x5000
    ∷ take_trap 2 gets ok
    ∷ [])
    -- (t18) the fresh state, as process 1 sees it
    ∷ tale "(t18) the fresh state" (laid fresh)
    (map (λ code. call 0x34 1 0 code 0 0 gets ok) (0 ∷ 1 ∷ 2 ∷ [])
    ++ map (λ code. call 0x36 1 0 code 0 0 gets ok) (0 ∷ 1 ∷ 2 ∷ [])
    ++ call 0x38 1 0 0 0 0 gets ok
    ∷ call 0x3A 1 0 0 0 0 gets gives 1 0
    ∷ take_trap 1 gets ok
    ∷ wake_report 1 gets ok
    ∷ unlock 1 x gets refusal notlocked
    ∷ kill 1 3 2 gets refusal noproc
    ∷ fshell 1 0 0 gets gives 2 0
    ∷ fshell 1 0 0 gets gives 3 0
    ∷ [])
    -- (t19) a child has its parent's six ids, and neither its alarm nor its last wake nor its rows
    ∷ story "(t19) a child is as a fresh process"
    (sleep A 1 gets sleeping
    ∷ tick gets moves 0b10 0
    ∷ on_alarm A 0 gets gives 0 1
    ∷ lock A unshared x gets ok
    ∷ call 0x35 A 1 3 7 0 gets ok
    ∷ call 0x35 A 2 3 8 0 gets ok
    ∷ call 0x37 A 0 3 9 0 gets ok
    ∷ call 0x37 A 1 3 10 0 gets ok
    ∷ call 0x37 A 2 3 11 0 gets ok
    ∷ becomes A 6 gets ok
    ∷ alarm A 2 gets ok
    ∷ fshell A 0 0 gets gives 6 0
    ∷ call 0x34 6 0 0 0 0 gets gives 6 0
    ∷ call 0x34 6 0 1 0 0 gets gives 7 0
    ∷ call 0x34 6 0 2 0 0 gets gives 8 0
    ∷ call 0x36 6 0 0 0 0 gets gives 9 0
    ∷ call 0x36 6 0 1 0 0 gets gives 10 0
    ∷ call 0x36 6 0 2 0 0 gets gives 11 0
    ∷ wake_report 6 gets ok
    ∷ unlock 6 x gets refusal notlocked
    ∷ lock 6 shared_if x gets refusal locked
    ∷ tick gets ok
    ∷ tick gets moves 0 0b10
    ∷ lock 6 shared_if x gets ok
    ∷ tick gets ok
    ∷ call 0x3A 6 0 0 0 0 gets gives 6 0
    ∷ [])
    -- (t20) masks of fshell: "Signal s uses bit s-1"; D2 is not read where D1 has 0; "bit 7 has no effect"
    ∷ story "(t20) masks of fshell, bit by bit"
    (on_signal B 2 0 gets gives 0 1
    ∷ on_signal B 4 0 gets gives 0 1
    ∷ on_signal B 5 0 gets gives 0 1
    ∷ on_signal B 6 0x6000 gets gives 0 1
    ∷ fshell B 0b1010010 0b0110110 gets gives 6 0
    ∷ on_signal 6 1 0 gets gives 0 1
    ∷ on_signal 6 2 0 gets gives 0 1
    ∷ on_signal 6 4 0 gets gives 0 0
    ∷ on_signal 6 5 0 gets gives 0 1
    ∷ on_signal 6 6 0 gets gives 0 0
    ∷ on_signal 6 7 0 gets gives 0 0
    ∷ fshell B 0b10000000 0b11111111 gets gives 7 0
    ∷ on_signal 7 1 0 gets gives 0 1
    ∷ on_signal 7 2 0 gets gives 0 0
    ∷ on_signal 7 6 0 gets gives 0 0
    ∷ on_signal 7 7 0 gets gives 0 1
    ∷ on_signal B 6 0 gets gives 0 0x6000
    ∷ kill 1 3 7 gets moves 0 0b1000000
    ∷ [])
    -- (t21) "0 abort, 1 ignore, else trap there": the lowest and the highest address
    ∷ story "(t21) traps at 2 and at the highest address"
    (on_signal A 1 2 gets gives 0 1
    ∷ on_signal A 4 (2 ^ 32 - 1) gets gives 0 1
    ∷ kill 1 4 A gets ok
    ∷ kill 1 1 A gets ok
    ∷ take_trap A gets gives 1 2
    ∷ take_trap A gets gives 4 (2 ^ 32 - 1)
    ∷ [])
    -- (t22) a kill of oneself: trapped, ignored, aborted. D3 0 is below the range
    ∷ story "(t22) a kill of oneself"
    (on_signal A 2 0x2000 gets gives 0 1
    ∷ kill A 2 A gets ok
    ∷ take_trap A gets gives 2 0x2000
    ∷ kill A 2 A gets ok
    ∷ take_trap A gets ok
    ∷ kill A 2 0 gets refusal badcall
    ∷ on_signal A 2 0 gets gives 0 1
    ∷ kill A 2 A gets ending 0 0b10
    ∷ [])
    -- (t23) an unlock wakes every row that becomes held, and no other
    ∷ story "(t23) two sharers wake together, and an unshared waiter after both"
    (lock A unshared x gets ok
    ∷ lock B shared x gets sleeping
    ∷ lock C shared x gets sleeping
    ∷ lock D unshared x gets sleeping
    ∷ unlock A x gets moves 0b1100 0
    ∷ unlock B x gets ok
    ∷ unlock C x gets moves 0b10000 0
    ∷ [])
    -- (t24) "a lock sleeper loses its row": the one that waits, and not what it holds
    ∷ story "(t24) a trapped lock sleeper keeps what it holds"
    (on_signal A 2 0x2000 gets gives 0 1
    ∷ lock A unshared y gets ok
    ∷ lock B unshared x gets ok
    ∷ lock A unshared x gets sleeping
    ∷ lock C shared y gets sleeping
    ∷ kill 1 2 A gets moves 0b10 0
    ∷ take_trap A gets gives 2 0x2000
    ∷ lock A shared_if y gets refusal held
    ∷ lock A shared_if x gets refusal locked
    ∷ unlock A y gets moves 0b1000 0
    ∷ [])
    -- (t25) sequences of 16 bytes: all are compared
    ∷ story "(t25) sequences that differ in the 16th byte"
    (lock A unshared sixteen gets ok
    ∷ lock B unshared (replicate 15 120 ++ 121 ∷ []) gets ok
    ∷ lock C unshared (replicate 15 120) gets ok
    ∷ lock D unshared sixteen gets sleeping
    ∷ unlock C sixteen gets refusal notlocked
    ∷ unlock A sixteen gets moves 0b10000 0
    ∷ [])
    -- (t26) the last bit of the masks
    ∷ story "(t26) the 16th process wakes, and ends"
    (map (λ n. fshell 1 0 0 gets gives n 0) (6 ∷ 7 ∷ 8 ∷ 9 ∷ 10 ∷ 11 ∷ 12 ∷ 13 ∷ 14 ∷ 15 ∷ 16 ∷ [])
    ++ sleep 16 1 gets sleeping
    ∷ tick gets moves 0x8000 0
    ∷ kill 1 3 16 gets moves 0 0x8000
    ∷ [])
    -- (t27) take and the wake report read neither the call nor the registers; only the indirect call reads D0
    ∷ story "(t27) what is not read"
    (event 3 0xFF A 9 9 9 9 9 gets ok
    ∷ event 4 0xFF A 9 9 9 9 9 gets ok
    ∷ event 1 0x3A A 0x51 9 9 9 9 gets gives A 0
    ∷ event 1 0x38 A 0xFF 9 9 9 9 gets ok
    ∷ [])
    -- (t28) two seconds are two ticks; an alarm counts while its process sleeps; "A report clears nothing"
    ∷ story "(t28) a sleep and an alarm of two seconds"
    (on_alarm B 0x2000 gets gives 0 1
    ∷ alarm B 2 gets ok
    ∷ pause B gets sleeping
    ∷ sleep A 2 gets sleeping
    ∷ tick gets ok
    ∷ tick gets moves 0b110 0
    ∷ wake_report A gets gives 0 3
    ∷ wake_report A gets gives 0 3
    ∷ wake_report B gets gives 0 2
    ∷ take_trap B gets gives 5 0x2000
    ∷ wake_report B gets gives 0 2
    ∷ [])
    -- (t29) an ignored signal wakes no sleeper of any kind
    ∷ story "(t29) an ignored signal wakes nobody"
    (lock A unshared x gets ok
    ∷ sleep B 5 gets sleeping
    ∷ lock C unshared x gets sleeping
    ∷ pause D gets sleeping
    ∷ kill 1 7 B gets ok
    ∷ kill 1 7 C gets ok
    ∷ kill 1 7 D gets ok
    ∷ call 0x3A B 0 0 0 0 gets refusal asleep
    ∷ call 0x3A D 0 0 0 0 gets refusal asleep
    ∷ unlock A x gets moves 0b1000 0
    ∷ [])
    -- (t30) an alarm and a sleep have the 32 bits of D3
    ∷ story_then "(t30) alarms and sleeps above 65,535"
    (λ m. eqb (process_of m A).alarm 65535 && eqb (process_of m B).alarm 65536 && eqb (process_of m C).alarm (2 ^ 32 - 2) && eqb (process_of m D).rest.seconds 65536)
    (alarm A 65536 gets ok ∷ alarm B 65537 gets ok ∷ alarm C (2 ^ 32 - 1) gets ok ∷ sleep D 65537 gets sleeping ∷ tick gets ok ∷ [])
    -- (t31) falling asleep leaves the seconds left as they were, in a pause, in a timed sleep and for a lock
    ∷ story_then "(t31) a pause leaves the seconds left" keeps_left (cut_short ++ pause A gets sleeping ∷ [])
    ∷ story_then "(t31) a sleep leaves the seconds left" keeps_left (cut_short ++ sleep A 3 gets sleeping ∷ [])
    ∷ story_then "(t31) a wait for a lock leaves the seconds left" keeps_left
    (cut_short ++ lock B unshared x gets ok ∷ lock A unshared x gets sleeping ∷ [])
    -- (t32) the edges of priorities; each id by its own code; setgroup wants privilege as setuser does, for a value in D3
    ∷ story "(t32) priorities 40 and -40, and ids"
    (set_priority A 40 gets ok
    ∷ call 0x38 A 0 0 0 0 gets gives 40 0
    ∷ set_priority A (2 ^ 32 - 40) gets ok
    ∷ call 0x38 A 0 0 0 0 gets gives (2 ^ 32 - 40) 0
    ∷ call 0x35 A 2 3 9 0 gets ok
    ∷ call 0x34 A 0 2 0 0 gets gives 9 0
    ∷ call 0x35 A 1 2 0 0 gets ok
    ∷ call 0x34 A 0 1 0 0 gets gives 9 0
    ∷ call 0x34 A 0 0 0 0 gets ok
    ∷ call 0x37 A 1 3 5 0 gets ok
    ∷ call 0x37 A 2 1 0 0 gets ok
    ∷ call 0x36 A 0 2 0 0 gets gives 5 0
    ∷ call 0x36 A 0 0 0 0 gets ok
    ∷ becomes A 100 gets ok
    ∷ call 0x37 A 0 3 5 0 gets refusal priv
    ∷ call 0x37 A 3 0 0 0 gets refusal badcall
    ∷ call 0x37 A 0 4 0 0 gets refusal badcall
    ∷ call 0x36 A 0 3 0 0 gets refusal badcall
    ∷ call 0x37 A 0 2 0 0 gets ok
    ∷ call 0x36 A 0 0 0 0 gets gives 5 0
    ∷ call 0x35 A 1 0 0 0 gets ok
    ∷ call 0x34 A 0 1 0 0 gets gives 100 0
    ∷ [])
    -- (t33) a waiter is killed: its row goes, and one behind it is held
    ∷ story "(t33) a waiter is killed, and one behind it wakes"
    (lock A shared x gets ok
    ∷ lock B unshared x gets sleeping
    ∷ lock C shared x gets sleeping
    ∷ kill 1 3 B gets moves 0b1000 0b100
    ∷ [])
    -- (t34) calls by way of the indirect call
    ∷ story "(t34) locks and processes by the indirect call"
    (indirectly (lock A unshared x) gets ok
    ∷ lock B unshared x gets sleeping
    ∷ indirectly (unlock A x) gets moves 0b100 0
    ∷ indirectly (fshell 1 0 0) gets gives 6 0
    ∷ indirectly (kill 1 3 6) gets moves 0 0b100000
    ∷ indirectly (call 0x46 A 0 0 0 0) gets ending 0 0b10
    ∷ indirectly (call 0x0F C 0 0 0 0) gets refusal badcall
    ∷ [])
    -- (t35) each signal but kill can be trapped; "the lowest pending signal" first
    ∷ story "(t35) six traps pending"
    (map (λ t. on_signal A t.0 t.1 gets gives 0 1) six
    ++ map (λ s. kill 1 s A gets ok) (7 ∷ 6 ∷ 5 ∷ 4 ∷ 2 ∷ 1 ∷ [])
    ++ map (λ t. take_trap A gets gives t.0 t.1) six
    ++ take_trap A gets ok
    ∷ [])
    -- (t36) a register that a call does not name is not tested
    ∷ story "(t36) registers that a call does not name"
    (event 1 0x34 A 9 9 0 9 9 gets ok
    ∷ event 1 0x35 A 9 0 0 70000 9 gets ok
    ∷ event 1 0x36 A 9 9 0 9 9 gets ok
    ∷ event 1 0x37 A 9 0 0 70000 9 gets ok
    ∷ event 1 0x39 A 9 9 9 5 9 gets ok
    ∷ event 1 0x40 A 9 9 6 9 1 gets gives 0 1
    ∷ event 1 0x41 A 9 9 6 B 9 gets ok
    ∷ event 1 0x42 A 9 9 9 0 9 gets ok
    ∷ event 1 0x43 A 9 9 9 0 9 gets ok
    ∷ event 1 0x48 A 9 0 0 9 9 gets gives 6 0
    ∷ event 1 0x44 B 9 9 9 9 9 gets sleeping
    ∷ event 1 0x46 C 9 9 9 9 9 gets ending 0 0b1000
    ∷ stuffed (lock D unshared x) gets ok
    ∷ stuffed (unlock D x) gets ok
    ∷ [])
    -- (t37) an unlock takes the row of its own sequence alone
    ∷ story "(t37) an unlock leaves the other rows of the caller"
    (lock A unshared x gets ok
    ∷ lock A unshared y gets ok
    ∷ lock B unshared y gets sleeping
    ∷ unlock A x gets ok
    ∷ lock A shared_if y gets refusal held
    ∷ unlock A x gets refusal notlocked
    ∷ unlock A y gets moves 0b100 0
    ∷ [])
    -- (t38) "the seconds that were left of a timed sleep .., else 0": those of an earlier sleep do not stay
    ∷ story "(t38) a signal that ends a pause leaves no seconds"
    (cut_short
    ++ on_signal A 7 0x3000 gets gives 0 1
    ∷ pause A gets sleeping
    ∷ kill 1 7 A gets moves 0b10 0
    ∷ wake_report A gets gives 0 2
    ∷ [])
    ∷ story "(t38) a signal that ends a wait for a lock leaves no seconds"
    (cut_short
    ++ on_signal A 7 0x3000 gets gives 0 1
    ∷ lock B unshared x gets ok
    ∷ lock A unshared x gets sleeping
    ∷ kill 1 7 A gets moves 0b10 0
    ∷ wake_report A gets gives 0 2
    ∷ [])
    -- (t39) "A report clears nothing", nor the seconds left
    ∷ story "(t39) a report leaves the seconds left" (cut_short ++ wake_report A gets gives 10 2 ∷ wake_report A gets gives 10 2 ∷ [])
    -- (t40) "0 is done at once"
    ∷ story "(t40) a sleep of 0 is no wake" (sleep A 0 gets ok ∷ wake_report A gets ok ∷ [])
    -- (t41) an alarm counts in a timed sleep; the seconds left are those after this tick's second
    ∷ story "(t41) an alarm cuts a sleep short"
    (on_alarm A 0x1000 gets gives 0 1
    ∷ alarm A 2 gets ok
    ∷ sleep A 5 gets sleeping
    ∷ tick gets ok
    ∷ tick gets moves 0b10 0
    ∷ wake_report A gets gives 3 2
    ∷ [])
    -- (t42) "all timed sleepers lose a second"
    ∷ story "(t42) three timed sleepers"
    (sleep A 1 gets sleeping ∷ sleep B 1 gets sleeping ∷ sleep C 2 gets sleeping ∷ tick gets moves 0b110 0 ∷ tick gets moves 0b1000 0 ∷ [])
    -- (t43) "the effective user ids are equal", whatever the others are
    ∷ story "(t43) effective user ids alone decide"
    (call 0x35 A 1 3 7 0 gets ok
    ∷ call 0x37 A 0 3 8 0 gets ok
    ∷ becomes A 100 gets ok
    ∷ becomes B 100 gets ok
    ∷ kill A 7 B gets ok
    ∷ call 0x35 C 1 3 100 0 gets ok
    ∷ kill A 7 C gets refusal priv
    ∷ [])
    -- (t44) a register counts with all its bits
    ∷ story "(t44) numbers whose low bits alone would do"
    (kill A 7 65539 gets refusal badcall
    ∷ kill A 257 B gets refusal badcall
    ∷ on_signal A 257 1 gets refusal badcall
    ∷ named 0x3E A unshared 257 x gets refusal badcall
    ∷ named 0x3E A unshared 65537 x gets refusal badcall
    ∷ named 0x3F A 0 257 x gets refusal badcall
    ∷ set_priority A 0xFFFF gets refusal badcall
    ∷ [])
    -- (t45) but for signal and exit, process 1 calls as any other does
    ∷ story "(t45) process 1 locks, sleeps and changes its ids"
    (set_priority 1 7 gets ok
    ∷ call 0x37 1 1 3 8 0 gets ok
    ∷ call 0x36 1 0 1 0 0 gets gives 8 0
    ∷ lock 1 unshared x gets ok
    ∷ lock A unshared x gets sleeping
    ∷ unlock 1 x gets moves 0b10 0
    ∷ lock 1 shared x gets sleeping
    ∷ unlock A x gets moves 0b1 0
    ∷ alarm 1 2 gets ok
    ∷ sleep 1 1 gets sleeping
    ∷ tick gets moves 0b1 0
    ∷ tick gets ok
    ∷ becomes 1 5 gets ok
    ∷ set_priority 1 (2 ^ 32 - 1) gets refusal priv
    ∷ pause 1 gets sleeping
    ∷ [])
    -- (t46) "When rows go, every row that becomes held wakes its owner in the same step", also where a trap takes one
    ∷ story "(t46) a trap takes a waiter out of the way of one behind"
    (on_signal B 4 512 gets gives 0 1
    ∷ lock A shared x gets ok
    ∷ lock B unshared x gets sleeping
    ∷ lock C shared x gets sleeping
    ∷ kill 1 4 B gets moves 0b1100 0
    ∷ [])
    -- (t47) one that is granted a lock and ends in the same tick is only in the ended mask
    ∷ story "(t47) granted and ended in one tick"
    (on_alarm A 0 gets gives 0 1
    ∷ on_alarm B 0 gets gives 0 1
    ∷ alarm A 1 gets ok
    ∷ alarm B 1 gets ok
    ∷ lock A unshared x gets ok
    ∷ lock B unshared x gets sleeping
    ∷ lock C unshared x gets sleeping
    ∷ tick gets moves 0b1000 0b110
    ∷ [])
    ∷ []

-- (t16) sound states, in which a tick is answered; and states with one fact broken, which is told before the event's kind is looked at
abbrev pub ticking : String × State → Case
ticking s = tale s.0 s.1 (tick gets ok ∷ [])

abbrev pub refusing : String × State → Case
refusing s = tale s.0 s.1 (event 0 0 0 0 0 0 0 0 gets refusal badstate ∷ [])

unfoldable pub table : List Case
table = stories ++ further ++ map ticking sounds ++ map refusing broken

-- "Proved of the definitions, as a single statement across one table"
abbrev pub WorkedCases : Type 0
WorkedCases = map comes table ≡ map should table

-- "No. | Name", the refusals of events in the order of the table
abbrev pub RefusalNumbers : Type 0
RefusalNumbers =
    map number_of
    (badstate ∷ badcaller ∷ asleep ∷ trap ∷ badcall ∷ notmodelled ∷ priv ∷ noproc ∷ nomemory ∷ held ∷ locked ∷ deadlock ∷ lcktable ∷ notlocked ∷ [])
    ≡ 1 ∷ 2 ∷ 3 ∷ 4 ∷ 5 ∷ 6 ∷ 7 ∷ 8 ∷ 9 ∷ 10 ∷ 11 ∷ 12 ∷ 13 ∷ 14 ∷ []

-- ---- "Call numbers fall into three classes"

-- so many numbers of one class, from the first on
pub record Run : Type 0 where
  pub name : String
  pub first : ℕ
  pub many : ℕ
  pub class : Class

abbrev run : String → ℕ → ℕ → Class → Run
run name first many class = record { name = name; first = first; many = many; class = class }

-- every number up to 13Ah: "Modelled calls, with the manual's numbers", "Listed: ..", and the unlisted
unfoldable pub runs : List Run
runs =
    run "00h to 0Eh" 0x00 15 NotModelled
    ∷ run "0Fh" 0x0F 1 BadCall
    ∷ run "10h to 19h" 0x10 10 NotModelled
    ∷ run "1Ah" 0x1A 1 BadCall
    ∷ run "1Bh and 1Ch" 0x1B 2 NotModelled
    ∷ run "1Dh to 1Fh" 0x1D 3 BadCall
    ∷ run "20h to 29h" 0x20 10 NotModelled
    ∷ run "2Ah to 2Fh" 0x2A 6 BadCall
    ∷ run "30h to 33h" 0x30 4 NotModelled
    ∷ run "getuser" 0x34 1 (Modelled (Own GetUser))
    ∷ run "setuser" 0x35 1 (Modelled (Own SetUser))
    ∷ run "getgroup" 0x36 1 (Modelled (Own GetGroup))
    ∷ run "setgroup" 0x37 1 (Modelled (Own SetGroup))
    ∷ run "getprior" 0x38 1 (Modelled (Own GetPrior))
    ∷ run "setprior" 0x39 1 (Modelled (Own SetPrior))
    ∷ run "getproc" 0x3A 1 (Modelled (Own GetProc))
    ∷ run "3Bh to 3Dh" 0x3B 3 BadCall
    ∷ run "lock" 0x3E 1 (Modelled Lock)
    ∷ run "unlock" 0x3F 1 (Modelled Unlock)
    ∷ run "signal" 0x40 1 (Modelled (Own Signal))
    ∷ run "kill" 0x41 1 (Modelled Kill)
    ∷ run "sleep" 0x42 1 (Modelled (Own Sleep))
    ∷ run "alarm" 0x43 1 (Modelled (Own Alarm))
    ∷ run "pause" 0x44 1 (Modelled (Own Pause))
    ∷ run "45h" 0x45 1 NotModelled
    ∷ run "exit" 0x46 1 (Modelled Exit)
    ∷ run "47h" 0x47 1 NotModelled
    ∷ run "fshell" 0x48 1 (Modelled FShell)
    ∷ run "49h" 0x49 1 NotModelled
    ∷ run "4Ah" 0x4A 1 BadCall
    ∷ run "4Bh and 4Ch" 0x4B 2 NotModelled
    ∷ run "4Dh" 0x4D 1 BadCall
    ∷ run "4Eh" 0x4E 1 NotModelled
    ∷ run "4Fh" 0x4F 1 BadCall
    ∷ run "50h" 0x50 1 NotModelled
    ∷ run "indirect" 0x51 1 (Modelled Indirect)
    ∷ run "52h to 56h" 0x52 5 NotModelled
    ∷ run "57h to 13Ah" 0x57 228 BadCall
    ∷ []

-- the classes of a run, and what they should be
abbrev pub classes : Run → List Class
classes r = map class_of (count r.first r.many)

abbrev pub should_be : Run → List Class
should_be r = replicate r.many r.class

abbrev pub ClassCases : Type 0
ClassCases = map classes runs ≡ map should_be runs
