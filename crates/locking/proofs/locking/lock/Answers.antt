-- `locking::locking::lock` meets its contract. Assumes nothing.
use Prim.Native.Nat.{ℕ, ◌+◌, ◌*◌, ◌≤◌}
use mathlib.Core.Path.{◌≡◌, sym, ap, ◌∙◌}
use mathlib.Core.Bool.{Bool, false, ◌||◌}
use mathlib.Core.List.{List}
use lib.Dec.{eqb, leb, ltb}
use lib.ListN.{length, get_or}
use borrow.Author.Tests.{lt-ltb}
use Rattle.locks.proofs.Tests.{or_left, or_right}
use Rattle.locks.specs.Rows.{standing_of}
use Rattle.locks.specs.Cells.{Shows, Tells}
use Rattle.locks.specs.declared.cells.Cell.{Cell}
use Rattle.locks.specs.declared.rows.Row.{Row}
use Rattle.locks.specs.declared.rows.Standing.{Standing}
use Rattle.rules.specs.Calls.{asks_shared, bad_sequence, do_lock, lock_row, row_of}
use Rattle.rules.specs.declared.state.Event.{Event}
use Rattle.rules.specs.declared.state.Process.{Process}
use Rattle.places.specs.Places.{Calls, PID, PLACE, USED, caller, machine}
use Rattle.places.specs.Settled.{Sequence, Settled}
use Rattle.places.proofs.Laying.{procs-used}
use Rattle.locks.proofs.Telling.{rows-shows}
use Rattle.locking.proofs.Sequences.{asks-good, asks-out}
use Rattle.places.proofs.Callings.{caller-pid}
use Rattle.locking.proofs.Lockings.{lock-bad, lock-free, lock-held, lock-locked, lock-on, lock-waits}
use mathlib.Core.Path.{refl}
use Rattle.std.proofs.lemmas.Result.{err_from_is_err_and}
use Rattle.locking.proofs.locking.lock.Goals as goal

pub returns-in_err-form : goal.returns-in_err-form
returns-in_err-form c = λ e a q.
    let p = err_from_is_err_and c.from_residual.result c.from_residual.ensures.1 in
    let k = c.in_err-form.ensures in
    rw (p.1, p.2, k.0) (lock-bad (caller _ _ _) e (or_left (ltb 3 e.d2) (bad_sequence e) (ap (ltb 3) q ∙ lt-ltb 3 _ k.1)) c.requires.0.laid.lays refl)

pub returns-in_err-check_length : goal.returns-in_err-check_length
returns-in_err-check_length c = λ e a q.
    let p = err_from_is_err_and c.from_residual-in_err-check_length.result c.from_residual-in_err-check_length.ensures.1 in
    let k = c.in_err-check_length.ensures in
    rw (p.1, p.2, k.0) (lock-bad (caller _ _ _) e (or_right (ltb 3 e.d2) (bad_sequence e) (asks-out a k.1)) c.requires.0.laid.lays refl)

-- the sequence is good: the rest goes by how the row stands
asked : {m t : List ℕ} {i d2 n low high : ℕ} → Calls m t i → {e : Event} → Sequence e n low high → e.d2 ≡ d2 → d2 ≤ 3 → 1 ≤ n → n ≤ 16
    → {b : Bool} → b ≡ asks_shared e → {pid : ℕ} → pid ≡ get_or m (i * PLACE + PID) 0
    → {z : Cell} → ((p : Process) (f : Event) → Sequence f n low high → p.pid ≡ pid → bad_sequence f ≡ false → Tells z (row_of p f b))
    → {x : Standing} → ((rows : List Row) (r : Row) → Shows t rows → length rows ≡ get_or m USED 0 → Tells z r → x ≡ standing_of rows r)
    → {out u v : List ℕ} → ((r : Row) → Tells z r → x ≡ standing_of (machine m t).rows r → Settled (machine m t) (lock_row (caller m t i) e r (machine m t)) out u v)
    → Settled (machine m t) (do_lock (caller m t i) e (machine m t)) out u v
asked {m} {t} {i} s {e} a q d l h g o k f y =
    let p = caller m t i in
    let ls = s.laid.lays in
    let bad = asks-good a l h in
    let tells = k p e a (caller-pid s o) bad in
    lock-on p e (rw q d) bad g (y _ tells (f _ _ (rows-shows ls.rows) (sym (procs-used ls.procs)) tells))

pub returns-in-Held : goal.returns-in-Held
returns-in-Held c = λ e a q.
    asked c.requires.0 a q c.in_ok-form.ensures.0 c.in_ok-check_length.ensures.0 c.in_ok-check_length.ensures.1 (c.in_ok-form.ensures.1 ∙ ap (λ (k : ℕ). eqb k 0 || eqb k 2) (sym q)) c.of.ensures c.row_of-c.ensures c.stands.ensures (λ r y h. lock-held _ e r (sym c.in-Held.is ∙ h) c.requires.0.laid.lays refl)

pub returns-in-Free : goal.returns-in-Free
returns-in-Free c = λ e a q.
    asked c.requires.0 a q c.in_ok-form.ensures.0 c.in_ok-check_length.ensures.0 c.in_ok-check_length.ensures.1 (c.in_ok-form.ensures.1 ∙ ap (λ (k : ℕ). eqb k 0 || eqb k 2) (sym q)) c.of.ensures c.row_of-c.ensures c.stands.ensures (λ r y h. lock-free _ e r (sym c.in-Free.is ∙ h) (c.hold.ensures r y))

pub returns-in-Waits : goal.returns-in-Waits
returns-in-Waits c = λ e a q.
    asked c.requires.0 a q c.in_ok-form.ensures.0 c.in_ok-check_length.ensures.0 c.in_ok-check_length.ensures.1 (c.in_ok-form.ensures.1 ∙ ap (λ (k : ℕ). eqb k 0 || eqb k 2) (sym q)) c.of.ensures c.row_of-c.ensures c.stands.ensures (λ r y h. lock-locked _ e r (sym c.in-Waits.is ∙ h) (sym (c.in_ok-form.ensures.2 ∙ ap (leb 2) (sym q)) ∙ c.if-form.true) c.requires.0.laid.lays refl)

pub returns-in-Waits-2 : goal.returns-in-Waits-2
returns-in-Waits-2 c = λ e a q.
    asked c.requires.0 a q c.in_ok-form.ensures.0 c.in_ok-check_length.ensures.0 c.in_ok-check_length.ensures.1 (c.in_ok-form.ensures.1 ∙ ap (λ (k : ℕ). eqb k 0 || eqb k 2) (sym q)) c.of.ensures c.row_of-c.ensures c.stands.ensures (λ r y h. lock-waits _ e r (sym c.in-Waits-2.is ∙ h) (sym (c.in_ok-form.ensures.2 ∙ ap (leb 2) (sym q)) ∙ c.if-form.false) (c.queue.ensures r y))
