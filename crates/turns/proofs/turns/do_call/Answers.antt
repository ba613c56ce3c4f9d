-- `turns::turns::do_call` meets its contract. Assumes nothing.
use Rattle.std.proofs.Common.{◌≡◌, refl, cond, ℕ}
use Rattle.rules.specs.Calls.{do_call}
use Rattle.rules.specs.Outcome.{badcall}
use Rattle.rules.specs.declared.state.Event.{Event}
use Rattle.locks.specs.Words.{Worded}
use Rattle.locks.specs.declared.words.Words.{Words}
use Rattle.places.specs.Settled.{Sequence}
use Rattle.places.proofs.Laying.{housed}
use Rattle.places.proofs.Settling.{settled-refused}
use Rattle.turns.proofs.Acting.{next_fits}
use Rattle.turns.proofs.Owning.{call_settled}
use Rattle.turns.proofs.turns.do_call.Goals as goal
use Rattle.turns.proofs.turns.do_call.Goals.{then-e, else-e}

-- what is asked of the sequence
asks : (e : Event) {n : ℕ} {w : Words} → n ≡ cond e.named e.d3 0 → Worded e.seq w → Sequence e n w.low w.high
asks e n w = record { count = n; long = w.long; small = w.small; first = w.first; last = w.last }

pub lock-requires : goal.lock-requires
lock-requires c =
    (c.requires, record { event = c.args.e; asks = asks c.args.e (elim c.if-e.branch [ then-e w ↦ rw w.if-e.true w.n-is | else-e w ↦ rw w.if-e.false w.n-is ]) c.words_of.ensures })

pub unlock-requires : goal.unlock-requires
unlock-requires c =
    (c.requires, record { event = c.args.e; asks = asks c.args.e (elim c.if-e.branch [ then-e w ↦ rw w.if-e.true w.n-is | else-e w ↦ rw w.if-e.false w.n-is ]) c.words_of-in-Unlock.ensures })

pub fshell-requires : goal.fshell-requires
fshell-requires c = (housed c.requires.laid.lays.procs, c.requires.stands, next_fits c.requires)

pub returns-in-Own : goal.returns-in-Own
unfolding do_call
returns-in-Own c = rw c.in-Own.is (call_settled c.requires _ c.args.e (c.own_call.ensures c.args.e (record { is-d1 = refl; is-d2 = refl; is-d3 = refl; is-a0 = refl })))

pub returns-in-Lock : goal.returns-in-Lock
unfolding do_call
returns-in-Lock c = rw c.in-Lock.is (c.lock.ensures c.args.e (asks c.args.e (elim c.if-e.branch [ then-e w ↦ rw w.if-e.true w.n-is | else-e w ↦ rw w.if-e.false w.n-is ]) c.words_of.ensures) refl)

pub returns-in-Unlock : goal.returns-in-Unlock
unfolding do_call
returns-in-Unlock c = rw c.in-Unlock.is (c.unlock.ensures c.args.e (asks c.args.e (elim c.if-e.branch [ then-e w ↦ rw w.if-e.true w.n-is | else-e w ↦ rw w.if-e.false w.n-is ]) c.words_of-in-Unlock.ensures))

pub returns-in-Kill : goal.returns-in-Kill
unfolding do_call
returns-in-Kill c = rw c.in-Kill.is (c.kill.ensures c.args.e refl refl)

pub returns-in-Exit : goal.returns-in-Exit
unfolding do_call
returns-in-Exit c = rw c.in-Exit.is c.exit.ensures

pub returns-in-FShell : goal.returns-in-FShell
unfolding do_call
returns-in-FShell c = rw c.in-FShell.is (c.fshell.ensures c.args.e c.args.arrays.now.cells refl refl c.requires)

pub returns-in-Indirect : goal.returns-in-Indirect
unfolding do_call
returns-in-Indirect c = rw c.in-Indirect.is (settled-refused badcall c.requires.laid.lays refl)
