-- A tick in which no alarm rings. Assumes nothing.
use Prim.Native.Nat.{ℕ}
use mathlib.Core.Path.{◌≡◌, refl, sym, ◌∙◌}
use mathlib.Core.Bool.{true, false}
use mathlib.Core.List.{List}
use Rattle.locks.specs.Lists.{any}
use Rattle.rules.specs.State.{no_process, new_process, each}
use Rattle.rules.specs.Sound.{sound_machine}
use Rattle.rules.specs.Outcome.{done, answered}
use Rattle.rules.specs.Clock.{slept, ticked}
use Rattle.rules.proofs.Arrivals.{slept-pid}
use Rattle.places.proofs.Masking.{map-masks}
use Rattle.signals.proofs.Seconds.{second, ticked-quiet}
use Rattle.locking.specs.Granted.{Sweeps}
use Rattle.places.specs.Places.{Laid, machine, procs_in}
use Rattle.places.specs.Settled.{Settled, masked}
use Rattle.rules.specs.Reply.{four_of}
use Rattle.places.proofs.Callings.{machine-ok}
use Rattle.signals.proofs.Passing.{each-lays}
use Rattle.signals.proofs.Seconds.{due}

pub quiet-settled : {m t u out : List ℕ} {w : ℕ} → Laid m t → Sweeps second m u w → sound_machine (machine m t) ≡ true → false ≡ any due (procs_in m) → out ≡ four_of (masked 0 w 0)
    → Settled (machine m t) (answered done 0 0 (ticked (machine m t))) out u t
unfolding each slept no_process new_process machine
quiet-settled {m} {t} l k h d o =
    let c = machine-ok l.lays h in
    let q = ticked-quiet (machine m t) c (sym d) in
    let a = map-masks second slept-pid refl (machine m t) (each second (machine m t)) c refl in
    record { lays = rw q (each-lays l second k.procs); answer = o ∙ rw (k.woken, q, a.0, ← a.1) }
