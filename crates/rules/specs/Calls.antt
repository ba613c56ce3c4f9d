-- The calls. Assumes nothing.
use Rattle.std.specs.Prelude.{ℕ, suc, ◌+◌, ◌-◌, ◌^◌, Bool, false, cond, not, ◌&&◌, ◌||◌, List, [], ◌∷◌, ◌++◌, length, take, eqb, leb, ltb}
use Rattle.locks.specs.Lists.{padded, between, bit, is_zero}
use Rattle.locks.specs.Rows.{waits, has_twin, without_twin}
use Rattle.chains.specs.Chains.{leads_back}
use Rattle.locks.specs.declared.rows.Row.{Row}
use Rattle.rules.specs.State.{Machine, abort, ignore, for_signal, for_lock, for_time, new_process, lives, process_of, put, rows_left, privileged, reaction_to, with_user, with_group, with_priority, with_signals, with_reaction, with_alarm, asleep_for}
use Rattle.rules.specs.Outcome.{Outcome, done, now_asleep, caller_ended, badcall, notmodelled, priv, noproc, nomemory, held, locked, deadlock, lcktable, notlocked, refused, answered, when, either, own}
use Rattle.rules.specs.Signals.{ends, arrives}
use Rattle.rules.specs.declared.state.Ids.{Ids}
use Rattle.rules.specs.declared.state.Process.{Process}
use Rattle.rules.specs.declared.state.Event.{Event}
use Rattle.rules.specs.declared.calls.OwnCall.{OwnCall}
use Rattle.rules.specs.declared.calls.OwnCall.TheVariants.{GetUser, SetUser, GetGroup, SetGroup, GetPrior, SetPrior, GetProc, Signal, Sleep, Alarm, Pause}
use Rattle.rules.specs.declared.calls.Call.{Call}
use Rattle.rules.specs.declared.calls.Call.TheVariants.{Own, Lock, Unlock, Kill, Exit, FShell, Indirect}
use Rattle.rules.specs.declared.calls.Class.{Class}
use Rattle.rules.specs.declared.calls.Class.TheVariants.{Modelled, NotModelled, BadCall}

-- ---- call numbers

abbrev pub indirect : ℕ
indirect = 0x51

-- "Modelled calls, with the manual's numbers"
unfoldable pub modelled : List (ℕ × Call)
modelled =
    (0x34, Own GetUser) ∷ (0x35, Own SetUser) ∷ (0x36, Own GetGroup) ∷ (0x37, Own SetGroup) ∷ (0x38, Own GetPrior)
    ∷ (0x39, Own SetPrior) ∷ (0x3A, Own GetProc) ∷ (0x3E, Lock) ∷ (0x3F, Unlock) ∷ (0x40, Own Signal) ∷ (0x41, Kill)
    ∷ (0x42, Own Sleep) ∷ (0x43, Own Alarm) ∷ (0x44, Own Pause) ∷ (0x46, Exit) ∷ (0x48, FShell) ∷ (indirect, Indirect)
    ∷ []

-- "Listed: 00h-0Eh, 10h-19h, 1Bh, 1Ch, 20h-29h, 30h-3Ah, 3Eh-49h, 4Bh, 4Ch, 4Eh, 50h-56h", 33h among them
unfoldable pub listed : ℕ → Bool
listed n =
    between 0x00 0x0E n || between 0x10 0x19 n || eqb n 0x1B || eqb n 0x1C || between 0x20 0x29 n || between 0x30 0x3A n
    || between 0x3E 0x49 n || eqb n 0x4B || eqb n 0x4C || eqb n 0x4E || between 0x50 0x56 n

-- "Call numbers fall into three classes: modelled, listed by the manual but not modelled, and unlisted."
unfoldable pub class_among : List (ℕ × Call) → ℕ → Class
class_among [] n = cond (listed n) NotModelled BadCall
class_among (c ∷ cs) n = cond (eqb n c.0) (Modelled c.1) (class_among cs n)

unfoldable pub class_of : ℕ → Class
class_of n = class_among modelled n

-- ---- ids

-- "Codes 0 effective, 1 login, 2 program"
unfoldable pub id_of : ℕ → Ids → ℕ
id_of code i = cond (eqb code 0) i.effective (cond (eqb code 1) i.login i.program)

-- the ids with the one of that code changed
unfoldable pub with_id : ℕ → ℕ → Ids → Ids
with_id code v i =
    cond (eqb code 0) (record { effective = v; login = i.login; program = i.program })
    (cond (eqb code 1) (record { effective = i.effective; login = v; program = i.program })
    (record { effective = i.effective; login = i.login; program = v }))

-- "Get: D2 0..2, answer in D3."
unfoldable pub get_id : Ids → Process → Event → Outcome Process
get_id i p e = when (ltb 2 e.d2) badcall (answered done (id_of e.d2 i) 0 p)

-- the ids after a set: id D1 from the source D2, "3 the value in D3"
unfoldable pub new_ids : Ids → Event → Ids
new_ids i e = with_id e.d1 (cond (eqb e.d2 3) e.d3 (id_of e.d2 i)) i

-- not "D1 0..2, D2 0..3, and D3 at most 65,535 if D2 is 3"
abbrev pub bad_ids : Event → Bool
bad_ids e = ltb 2 e.d1 || ltb 3 e.d2 || (eqb e.d2 3 && ltb 65535 e.d3)

-- "Set: D1 0..2, .. ; then priv if D2 is 3 and the caller is not privileged."
unfoldable pub set_id : (Ids → Process → Process) → Ids → Process → Event → Outcome Process
set_id with i p e =
    when (bad_ids e) badcall
    (when (eqb e.d2 3 && not (privileged p)) priv
    (answered done 0 0 (with (new_ids i e) p)))

-- ---- priority, in 32-bit two's complement

-- "-40..40"
unfoldable pub in_priority : ℕ → Bool
in_priority n = leb n 40 || leb (2 ^ 32 - 40) n

abbrev pub negative : ℕ → Bool
negative n = leb (2 ^ 31) n

-- "Set: D3 signed, -40..40; then priv if negative and unprivileged."
unfoldable pub set_prior : Process → Event → Outcome Process
set_prior p e =
    when (not (in_priority e.d3)) badcall
    (when (negative e.d3 && not (privileged p)) priv
    (answered done 0 0 (with_priority e.d3 p)))

-- ---- signals

-- "D2 1, 2, 4, 5, 6 or 7. A0 0 abort, 1 ignore, else trap there. The old reaction returns in A0. From process 1: badcall."
unfoldable pub set_signal : Process → Event → Outcome Process
set_signal p e =
    when (not (between 1 7 e.d2) || eqb e.d2 3 || eqb p.pid 1) badcall
    (answered done 0 (reaction_to e.d2 p) (with_signals (with_reaction e.d2 e.a0 p.signals) p))

-- "2 caller ended", where it is not among the live after
unfoldable pub outlived : ℕ → Machine → Outcome Machine
outlived n after = either (lives after n) (answered done 0 0 after) (answered caller_ended 0 0 after)

-- "D2 1..7; D3 2..65,535; noproc; priv unless privileged or the effective user ids are equal (house rule)." The caller may end itself.
unfoldable pub send_kill : Process → Event → Machine → Outcome Machine
send_kill p e m =
    when (not (between 1 7 e.d2) || not (between 2 65535 e.d3)) badcall
    (when (not (lives m e.d3)) noproc
    (when (not (privileged p || eqb p.user.effective (process_of m e.d3).user.effective)) priv
    (outlived p.pid (arrives e.d2 e.d3 m))))

-- ---- processes

-- "Signal s uses bit s-1: a 0 there in D1 takes the parent's reaction, with a trap becoming abort; a 1 takes abort where D2 has 0 and ignore where D2 has 1."
unfoldable pub child_reaction : ℕ → ℕ → ℕ → ℕ → ℕ
child_reaction d1 d2 i a = cond (bit i d1) (cond (bit i d2) ignore abort) (cond (eqb a ignore) ignore abort)

-- the reactions of the child from place i on, "Kill is always abort"
unfoldable pub child_reactions : ℕ → ℕ → ℕ → List ℕ → List ℕ
child_reactions d1 d2 i [] = []
child_reactions d1 d2 i (a ∷ rest) = cond (eqb i 2) abort (child_reaction d1 d2 i a) ∷ child_reactions d1 d2 (suc i) rest

-- "The child has the parent's ids and priority; the rest of it is as in a fresh process"
unfoldable pub child : Process → Event → ℕ → Process
child p e pid = new_process pid p.user p.group p.priority (child_reactions e.d1 e.d2 0 p.signals.reactions)

-- "PIDs are never used again"
unfoldable pub born : Process → Machine → Machine
born c m = record { procs = m.procs ++ c ∷ []; rows = m.rows; next = m.next + 1 }

-- "D1 and D2 at most 255; nomemory"; "D3 is its PID"
unfoldable pub do_fshell : Process → Event → Machine → Outcome Machine
do_fshell p e m =
    when (ltb 255 e.d1 || ltb 255 e.d2) badcall
    (when (eqb (length m.procs) 16 || eqb m.next 65536) nomemory
    (answered done m.next 0 (born (child p e m.next) m)))

-- "From process 1: badcall. All rows of the process go."
unfoldable pub do_exit : Process → Machine → Outcome Machine
do_exit p m = when (eqb p.pid 1) badcall (answered caller_ended 0 0 (ends p.pid m))

-- ---- sleeps

-- "D3 seconds; 0 is done at once"
unfoldable pub do_sleep : Process → Event → Outcome Process
do_sleep p e = either (is_zero e.d3) (answered done 0 0 p) (answered now_asleep 0 0 (asleep_for for_time e.d3 p))

-- ---- locks

-- the row asked for: "its first D3 bytes", and zeros
unfoldable pub row_of : Process → Event → Bool → Row
row_of p e shared = record { owner = p.pid; shared = shared; len = e.d3; bytes = padded 16 0 (take e.d3 e.seq) }

-- "D3 length 1..16; a sequence must be named, else badcall"
abbrev pub bad_sequence : Event → Bool
bad_sequence e = not (between 1 16 e.d3) || not e.named

-- "0 shared, 1 unshared, 2 shared conditional, 3 unshared conditional"
abbrev pub asks_shared : Event → Bool
asks_shared e = eqb e.d2 0 || eqb e.d2 2

abbrev pub conditional : Event → Bool
conditional e = leb 2 e.d2

-- the row stands last
unfoldable pub appended : Row → Machine → Machine
appended r m = record { procs = m.procs; rows = m.rows ++ r ∷ []; next = m.next }

-- "held exactly when no earlier row conflicts with it; otherwise it waits and its owner sleeps"
unfoldable pub queued : Process → Row → Machine → Outcome Machine
queued p r m =
    either (waits m.rows r)
    (answered now_asleep 0 0 (put (asleep_for for_lock 0 p) (appended r m)))
    (answered done 0 0 (appended r m))

-- "Then held; locked or deadlock; lcktable."
unfoldable pub lock_row : Process → Event → Row → Machine → Outcome Machine
lock_row p e r m =
    when (has_twin r m.rows) held
    (when (waits m.rows r && conditional e) locked
    (when (waits m.rows r && leads_back m.rows r) deadlock
    (when (eqb (length m.rows) 32) lcktable
    (queued p r m))))

-- "lock: D2 0 shared, .. else badcall. Then .."
unfoldable pub do_lock : Process → Event → Machine → Outcome Machine
do_lock p e m = when (ltb 3 e.d2 || bad_sequence e) badcall (lock_row p e (row_of p e (asks_shared e)) m)

-- "notlocked: unlock: the caller has no row for the sequence"
unfoldable pub unlock_row : Row → Machine → Outcome Machine
unlock_row r m = when (not (has_twin r m.rows)) notlocked (answered done 0 0 (rows_left (without_twin r m.rows) m))

-- "unlock: D3 1..16 and a named sequence, else badcall; D2 is not read"
unfoldable pub do_unlock : Process → Event → Machine → Outcome Machine
do_unlock p e m = when (bad_sequence e) badcall (unlock_row (row_of p e false) m)

-- ---- the call of a live process that is awake and has no trap pending

-- those that touch their caller alone
unfoldable pub own_call : OwnCall → Process → Event → Outcome Process
own_call GetUser p e = get_id p.user p e
own_call SetUser p e = set_id with_user p.user p e
own_call GetGroup p e = get_id p.group p e
own_call SetGroup p e = set_id with_group p.group p e
-- "Get: the caller's, in D3."
own_call GetPrior p e = answered done p.priority 0 p
own_call SetPrior p e = set_prior p e
-- "The caller's PID in D3."
own_call GetProc p e = answered done p.pid 0 p
own_call Signal p e = set_signal p e
own_call Sleep p e = do_sleep p e
-- "D3 seconds replaces any earlier alarm; 0 turns it off."
own_call Alarm p e = answered done 0 0 (with_alarm e.d3 p)
-- "pause sleeps until a signal that is not ignored"
own_call Pause p e = answered now_asleep 0 0 (asleep_for for_signal 0 p)

unfoldable pub do_call : Call → Process → Event → Machine → Outcome Machine
do_call (Own c) p e m = own m (own_call c p e)
do_call Lock p e m = do_lock p e m
do_call Unlock p e m = do_unlock p e m
do_call Kill p e m = send_kill p e m
do_call Exit p e m = do_exit p m
do_call FShell p e m = do_fshell p e m
-- "51h in D0 is badcall": only so is this reached, since `called` puts D0 in the place of 51h
do_call Indirect p e m = refused badcall

-- "badcall: .. unlisted number", "notmodelled: listed, not modelled"
unfoldable pub of_class : Class → Process → Event → Machine → Outcome Machine
of_class (Modelled c) p e m = do_call c p e m
of_class NotModelled p e m = refused notmodelled
of_class BadCall p e m = refused badcall

-- "indirect. D0 is the call number"
unfoldable pub called : Process → Event → Machine → Outcome Machine
called p e m = of_class (class_of (cond (eqb e.call indirect) e.d0 e.call)) p e m
