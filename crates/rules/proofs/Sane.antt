-- What soundness asks of one process, by name, and what keeps it. Assumes nothing.
use Prim.Native.Nat.{ℕ}
use mathlib.Core.Path.{◌≡◌, refl}
use mathlib.Core.Bool.{true, and-eq-true_iff}
use mathlib.Core.List.{List}
use lib.Dec.{eqb}
use borrow.Author.Tests.{eq-eqb}
use Rattle.locks.specs.declared.rows.Row.{Row}
use Rattle.locks.proofs.Tests.{or_right}
use Rattle.rules.specs.State.{with_signals, asleep_for, woken_by, process}
use Rattle.rules.specs.Calls.{in_priority}
use Rattle.rules.specs.Sound.{sleep_fits, wake_fits, quiet, traps_fit, reactions_fit, lock_fits, sound_process}
use Rattle.rules.specs.declared.state.Ids.{Ids}
use Rattle.rules.specs.declared.state.Signals.{Signals}
use Rattle.rules.specs.declared.state.Process.{Process}

pub record Sane (rows : List Row) (p : Process) : Type 0 where
  pub sleeps : sleep_fits p.rest.sleep p.rest.seconds ≡ true
  pub woke : wake_fits p.rest.wake p.rest.left ≡ true
  pub calm : quiet p.rest.sleep p.signals.pending ≡ true
  pub traps : traps_fit p.signals.pending p.signals.traps ≡ true
  pub prior : in_priority p.priority ≡ true
  pub reacts : reactions_fit p.pid p.signals.reactions ≡ true
  pub locks : lock_fits rows p.pid p.rest.sleep ≡ true

pub sane : {rows : List Row} {p : Process} → sound_process rows p ≡ true → Sane rows p
unfolding sound_process
sane h =
    let s = simp and-eq-true_iff at h in
    record { sleeps = s.0.0.0.0.0.0; woke = s.0.0.0.0.0.1; calm = s.0.0.0.0.1; traps = s.0.0.0.1; prior = s.0.0.1; reacts = s.0.1; locks = s.1 }

pub sound-sane : {rows : List Row} {p : Process} → Sane rows p → sound_process rows p ≡ true
unfolding sound_process
sound-sane s = simp and-eq-true_iff (search)

module _ {rows : List Row} {p : Process} (s : Sane rows p) where
  -- other ids, priority and alarm
  pub sane-plain : (u g : Ids) (n a : ℕ) → in_priority n ≡ true → Sane rows (process p.pid u g n p.signals a p.rest)
  sane-plain u g n a h =
      record { sleeps = s.sleeps; woke = s.woke; calm = s.calm; traps = s.traps; prior = h; reacts = s.reacts; locks = s.locks }

  pub sane-signals : (g : Signals) → quiet p.rest.sleep g.pending ≡ true → traps_fit g.pending g.traps ≡ true → reactions_fit p.pid g.reactions ≡ true → Sane rows (with_signals g p)
  sane-signals g c t r = record { sleeps = s.sleeps; woke = s.woke; calm = c; traps = t; prior = s.prior; reacts = r; locks = s.locks }

  -- among other rows
  pub sane-rows : (left : List Row) → lock_fits left p.pid p.rest.sleep ≡ true → Sane left p
  sane-rows left l =
      record { sleeps = s.sleeps; woke = s.woke; calm = s.calm; traps = s.traps; prior = s.prior; reacts = s.reacts; locks = l }

  pub sane-asleep : (left : List Row) (kind seconds : ℕ) → sleep_fits kind seconds ≡ true → p.signals.pending ≡ 0 → lock_fits left p.pid kind ≡ true
      → Sane left (asleep_for kind seconds p)
  unfolding quiet
  sane-asleep left kind seconds f z l =
      record { sleeps = f; woke = s.woke; calm = or_right (eqb kind 0) _ (eq-eqb p.signals.pending 0 z); traps = s.traps; prior = s.prior; reacts = s.reacts; locks = l }

  pub sane-woken : (left : List Row) (reason seconds : ℕ) → wake_fits reason seconds ≡ true → lock_fits left p.pid 0 ≡ true → Sane left (woken_by reason seconds p)
  unfolding sleep_fits quiet
  sane-woken left reason seconds w l =
      record { sleeps = refl; woke = w; calm = refl; traps = s.traps; prior = s.prior; reacts = s.reacts; locks = l }
