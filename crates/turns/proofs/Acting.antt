-- The checks of an event in their order, and what a live process that is awake may ask. Assumes nothing.
use Prim.Native.Nat.{ℕ, ◌+◌, ◌*◌, ◌≤◌, ◌<◌}
use native.Mathlib.Omega.{arith}
use mathlib.Core.Path.{◌≡◌, refl, sym, ap, ◌∙◌, subst}
use mathlib.Core.Bool.{true, false, cond, not, and-eq-true_iff}
use mathlib.Core.List.{List}
use lib.Dec.{eqb}
use lib.ListN.{get_or}
use borrow.Author.Tests.{eq-eqb, ne_eqb, ltb-true}
use Rattle.locks.specs.Lists.{between}
use Rattle.locks.proofs.Lists.{all-at}
use Rattle.rules.specs.State.{Machine, no_process, lives, process_of, sleeps}
use Rattle.rules.specs.Outcome.{done, badcaller, asleep, trap, badcall, answered, own}
use Rattle.rules.specs.Signals.{taken}
use Rattle.rules.specs.Clock.{ticked}
use Rattle.rules.specs.Calls.{indirect, class_of, of_class, called}
use Rattle.rules.specs.Sound.{sound_process, traps_fit}
use Rattle.rules.specs.Step.{reported, of_caller, outcome}
use Rattle.rules.specs.declared.state.Process.{Process}
use Rattle.rules.specs.declared.state.Event.{Event}
use Rattle.rules.specs.declared.calls.Class.{Class}
use Rattle.turns.specs.Kinds.{IsKind}
use Rattle.turns.specs.declared.kinds.Asked.{Asked}
use Rattle.turns.specs.declared.kinds.Asked.TheVariants.{Call, Take, Report}
use Rattle.turns.specs.declared.kinds.EventKind.TheVariants.{OfCaller}
use Rattle.rules.proofs.Frame.{fit_next}
use Rattle.rules.proofs.Sane.{sane}
use Rattle.places.specs.Places.{Calls, Lays, NEXT, PENDING, PLACE, caller, machine, numbers}
use Rattle.places.specs.Settled.{Settled, answer_of}
use Rattle.rules.specs.Reply.{four_of}
use Rattle.places.proofs.Callings.{caller-get, calls-here, calls-ok}
use Rattle.places.proofs.Laying.{procs-next}
use Rattle.places.proofs.Settling.{settled-first, settled-past, settled-second, settled-when}

-- ---- the checks of an event, in their order

-- who asks something of its caller is none of the others
pub of-caller : (n : ℕ) (a : Asked) → IsKind n (OfCaller a) → (between 1 4 n ≡ true) × (eqb n 2 ≡ false)
of-caller n Call e = rw e (refl, refl)
of-caller n Take e = rw e (refl, refl)
of-caller n Report e = rw e (refl, refl)

module _ {s : Machine} (e : Event) {out m t : List ℕ} where
  pub bad_kind : between 1 4 e.kind ≡ false → Lays m t s → out ≡ four_of (answer_of 3 5 0 0) → Settled s (outcome e s) out m t
  unfolding outcome
  bad_kind h l a = settled-when badcall _ (ap not h) l a

  module _ (k : between 1 4 e.kind ≡ true) where
    pub ticks : eqb e.kind 2 ≡ true → Settled s (answered done 0 0 (ticked s)) out m t → Settled s (outcome e s) out m t
    unfolding outcome
    ticks h c = settled-past badcall (ap not k) (settled-first _ h c)

    module _ (d : eqb e.kind 2 ≡ false) where
      pub no-caller : lives s e.caller ≡ false → Lays m t s → out ≡ four_of (answer_of 3 2 0 0) → Settled s (outcome e s) out m t
      unfolding outcome
      no-caller h l a = settled-past badcall (ap not k) (settled-second _ d (settled-when badcaller _ (ap not h) l a))

      module _ {p : Process} (h : lives s e.caller ≡ true) (q : p ≡ process_of s e.caller) where
        pub caller-sleeps : sleeps p ≡ true → Lays m t s → out ≡ four_of (answer_of 3 3 0 0) → Settled s (outcome e s) out m t
        unfolding outcome
        caller-sleeps z l a =
            settled-past badcall (ap not k) (settled-second _ d (settled-past badcaller (ap not h) (settled-when asleep _ (ap sleeps (sym q) ∙ z) l a)))

        pub caller-acts : sleeps p ≡ false → Settled s (of_caller p e s) out m t → Settled s (outcome e s) out m t
        unfolding outcome
        caller-acts z c =
            settled-past badcall (ap not k)
            (settled-second _ d
            (settled-past badcaller (ap not h)
            (settled-past asleep (ap sleeps (sym q) ∙ z) (subst (λ (x : Process). Settled s (of_caller x e s) out m t) q c))))

-- ---- what a live process that is awake may do

module _ {s : Machine} (p : Process) (e : Event) {out m t : List ℕ} where
  pub act-take : e.kind ≡ 3 → Settled s (own s (taken p)) out m t → Settled s (of_caller p e s) out m t
  unfolding of_caller
  act-take h c = settled-second _ (ap (λ (k : ℕ). eqb k 1) h) (settled-first _ (ap (λ (k : ℕ). eqb k 3) h) c)

  pub act-report : (e.kind ≡ 1 → ⊥) → (e.kind ≡ 3 → ⊥) → Settled s (own s (reported p)) out m t → Settled s (of_caller p e s) out m t
  unfolding of_caller
  act-report h k c = settled-second _ (ne_eqb e.kind 1 h) (settled-second _ (ne_eqb e.kind 3 k) c)

  pub act-trap : e.kind ≡ 1 → (p.signals.pending ≡ 0 → ⊥) → Lays m t s → out ≡ four_of (answer_of 3 4 0 0) → Settled s (of_caller p e s) out m t
  unfolding of_caller
  act-trap h k l a = settled-first _ (eq-eqb e.kind 1 h) (settled-when trap _ (ap not (ne_eqb p.signals.pending 0 k)) l a)

  pub act-call : e.kind ≡ 1 → p.signals.pending ≡ 0 → Settled s (called p e s) out m t → Settled s (of_caller p e s) out m t
  unfolding of_caller
  act-call h k c = settled-first _ (eq-eqb e.kind 1 h) (settled-past trap (ap not (eq-eqb p.signals.pending 0 k)) c)

  -- the call of that number
  pub act-class : {n : ℕ} {x : Class} → n ≡ cond (eqb e.call indirect) e.d0 e.call → x ≡ class_of n → Settled s (of_class x p e s) out m t → Settled s (called p e s) out m t
  unfolding called
  act-class a q c = subst (λ (y : Class). Settled s (of_class y p e s) out m t) (q ∙ ap class_of a) c

-- the number of the call asked for
abbrev pub AsksCall : Event → ℕ → Type 0
AsksCall e n = n ≡ cond (eqb e.call indirect) e.d0 e.call

pub asks-indirect : (e : Event) {n : ℕ} → e.call ≡ indirect → n ≡ e.d0 → AsksCall e n
asks-indirect e h q = rw (eq-eqb e.call indirect h) q

pub asks-plain : (e : Event) {n : ℕ} → (e.call ≡ indirect → ⊥) → n ≡ e.call → AsksCall e n
asks-plain e h q = rw (ne_eqb e.call indirect h) q

-- ---- numbers of the caller and of the machine

module _ {m t : List ℕ} {i : ℕ} (c : Calls m t i) where
  pub caller-pending : {x : ℕ} → x ≡ get_or m (i * PLACE + PENDING) 0 → (caller m t i).signals.pending ≡ x
  unfolding numbers
  caller-pending e = sym (e ∙ caller-get c PENDING (omega arith))

  pub pending-small : get_or m (i * PLACE + PENDING) 0 < 256
  unfolding traps_fit
  pending-small =
      let p = caller m t i in
      let h = (sane {rows = (machine m t).rows} {p = p} (all-at (sound_process (machine m t).rows) (machine m t).procs no_process i (calls-here c) (calls-ok c).procs)).traps in
      let b : p.signals.pending < 128 = ltb-true p.signals.pending 128 (simp and-eq-true_iff at h).0.0 in
      let e : p.signals.pending ≡ get_or m (i * PLACE + PENDING) 0 = caller-pending refl in
      omega arith

  pub next_fits : get_or m NEXT 0 ≤ 65536
  next_fits = rw (procs-next c.laid.lays.procs) (fit_next _ _ (calls-ok c).frame.fit).1
