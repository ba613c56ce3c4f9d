use Prim.Native.Nat.{◌<◌}
use native.Mathlib.Omega.{arith}
use mathlib.Core.Path.{sym, ◌≡◌, refl}
use mathlib.Core.Bool.{true, false}
use borrow.Author.Rules.{rules}
use lib.ListN.{length, get_or}
use Rattle.std.proofs.lemmas.Iterator.{cases_from_any, YieldsList-from_range}
use Rattle.rules.specs.State.{no_process}
use Rattle.places.specs.Places.{LIVE, procs_in}
use Rattle.places.proofs.Laying.{procs-live}
use Rattle.locks.proofs.Loops.{any-range}
use Rattle.signals.proofs.Ringing.{due-at}
use Rattle.signals.proofs.Seconds.{due}
use Rattle.signals.proofs.clock.alarm_due.Goals as goal

pub returns : goal.returns
returns c =
    let ps = procs_in c.args.m.now in
    let n = get_or c.args.m.now LIVE 0 in
    any-range due ps no_process (sym (procs-live c.requires.procs))
    (cases_from_any _ _ c.any.result (λ k. k < length ps → true ≡ due (get_or ps k no_process)) (λ k. k < length ps → false ≡ due (get_or ps k no_process))
    c.any.ensures.ran (YieldsList-from_range 0 n n refl (omega arith)) (λ k s h l. let y = due-at c.requires k l in search rules) (λ k s h. (search rules, λ l. let y = due-at c.requires k l in search rules)))
