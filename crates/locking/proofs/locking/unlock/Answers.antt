-- `locking::locking::unlock` meets its contract. Assumes nothing.
use Prim.Native.Nat.{ℕ, ◌+◌, ◌*◌, ◌≤◌}
use mathlib.Core.Path.{◌≡◌, sym, ◌∙◌}
use mathlib.Core.Bool.{false}
use mathlib.Core.List.{List}
use lib.ListN.{get_or}
use Rattle.places.specs.Places.{Calls, PID, PLACE, caller}
use Rattle.places.proofs.Laying.{procs-used}
use Rattle.locking.proofs.Sequences.{asks-out, asks-good}
use Rattle.locks.proofs.Telling.{rows-shows}
use Rattle.places.proofs.Callings.{calls-ok, caller-pid}
use Rattle.locking.proofs.Unlocks.{named, unlock-bad, unlock-none, unlock-done}
use Rattle.locks.specs.Cells.{Tells}
use Rattle.locks.specs.declared.cells.Cell.{Cell}
use Rattle.rules.specs.Calls.{bad_sequence, row_of}
use Rattle.rules.specs.declared.state.Event.{Event}
use Rattle.rules.specs.declared.state.Process.{Process}
use Rattle.places.specs.Settled.{Sequence, asker}
use Rattle.locking.proofs.locking.unlock.Goals as goal
use mathlib.Core.Path.{refl}
use Rattle.std.proofs.lemmas.Result.{err_from_is_err_and}

pub returns-in_err-check_length : goal.returns-in_err-check_length
returns-in_err-check_length c = λ e a.
    let p = err_from_is_err_and c.from_residual.result c.from_residual.ensures.1 in
    let k = c.in_err-check_length.ensures in
    rw (p.1, p.2, k.0) (unlock-bad (caller _ _ _) e (asks-out a k.1) c.requires.0.laid.lays refl)

-- the sequence is good, and the cell tells its row
tells : {m t : List ℕ} {i n low high pid : ℕ} → Calls m t i → (e : Event) → Sequence e n low high → 1 ≤ n → n ≤ 16 → pid ≡ get_or m (i * PLACE + PID) 0
    → {z : Cell} → ((p : Process) (f : Event) → Sequence f n low high → p.pid ≡ pid → bad_sequence f ≡ false → Tells z (row_of p f false)) → Tells z (row_of (caller m t i) e false)
tells s e a l h o k = k _ e a (caller-pid s o) (asks-good a l h)

pub returns-then-not-has_twin : goal.returns-then-not-has_twin
returns-then-not-has_twin c = λ e a.
    let l = c.requires.0.laid.lays in
    let y = tells c.requires.0 e a c.in_ok-check_length.ensures.0 c.in_ok-check_length.ensures.1 c.of.ensures c.row_of-c.ensures in
    let twin = c.has_twin.ensures _ _ (rows-shows l.rows) (sym (procs-used l.procs)) y in
    unlock-none _ e (asks-good a c.in_ok-check_length.ensures.0 c.in_ok-check_length.ensures.1) (sym twin ∙ c.if-not-has_twin.true) l refl

pub release-woken-requires : goal.release-woken-requires
release-woken-requires c =
    let s = c.requires in
    let y = tells s.0 s.1.event s.1.asks c.in_ok-check_length.ensures.0 c.in_ok-check_length.ensures.1 c.of.ensures c.row_of-c.ensures in
    (s.0.laid, record { row = row_of (asker c.args.arrays.now c.args.i) s.1.event false; names = named _ y })

pub returns : goal.returns
returns c = λ e a.
    let l = c.requires.0.laid.lays in
    let y = tells c.requires.0 e a c.in_ok-check_length.ensures.0 c.in_ok-check_length.ensures.1 c.of.ensures c.row_of-c.ensures in
    let twin = c.has_twin.ensures _ _ (rows-shows l.rows) (sym (procs-used l.procs)) y in
    unlock-done _ e (asks-good a c.in_ok-check_length.ensures.0 c.in_ok-check_length.ensures.1) (calls-ok c.requires.0) (sym twin ∙ c.if-not-has_twin.false) (c.release-woken.ensures.1 _ (named _ y)) c.with_masks.ensures
