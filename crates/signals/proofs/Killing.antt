-- Exit and kill: the checks in their order, and what the caller is told. Assumes nothing.
use Prim.Native.Nat.{ℕ, ◌+◌, ◌*◌, ◌<◌}
use native.Mathlib.Omega.{arith}
use mathlib.Core.Path.{◌≡◌, refl, sym, ap, ◌∙◌, subst}
use mathlib.Core.Bool.{Bool, true, false, not, ◌||◌}
use mathlib.Core.List.{List}
use lib.ListN.{get_or}
use lib.Dec.{eqb}
use borrow.Author.Tests.{eq-eqb, ne_eqb}
use Rattle.locks.specs.Lists.{between}
use Rattle.locks.proofs.Tests.{or_left, or_right}
use Rattle.rules.specs.State.{Machine, pids, lives, process_of, privileged}
use Rattle.rules.specs.Signals.{arrives, ends}
use Rattle.rules.specs.Outcome.{Outcome, badcall, caller_ended, done, noproc, priv, when}
use Rattle.rules.specs.Calls.{do_exit, outlived, send_kill}
use Rattle.rules.specs.Step.{woken_mask, ended_mask}
use Rattle.rules.specs.declared.state.Process.{Process}
use Rattle.rules.specs.declared.state.Event.{Event}
use Rattle.places.specs.Places.{place_of, Calls, LIVE, Laid, Lays, PLACE, USER, caller, machine, numbers, procs_in}
use Rattle.places.specs.Settled.{Settled, answer_of, masked}
use Rattle.rules.specs.Reply.{four_of}
use Rattle.places.proofs.Callings.{caller-get}
use Rattle.std.specs.Prelude.{Option, Some, None, MatchOption, is_some}
use Rattle.rules.specs.Outcome.{kind_number}
use Rattle.rules.specs.declared.outcome.AnswerKind.{AnswerKind}
use Rattle.rules.specs.declared.outcome.AnswerKind.TheVariants.{Done, CallerEnded}
use Rattle.signals.proofs.Found.{found_at, found_first, found-live, found_none, found-pid, found-process}
use Rattle.places.proofs.Laying.{procs-get, procs-live}
use Rattle.signals.proofs.Arriving.{in-procs}
use Rattle.places.proofs.Settling.{settled-first, settled-masked, settled-past, settled-second, settled-when}

-- ---- exit

module _ {m t : List ℕ} {i : ℕ} (c : Calls m t i) {x : ℕ} (e : (caller m t i).pid ≡ x) {out : List ℕ} where
  pub exit-first : x ≡ 1 → out ≡ four_of (answer_of 3 5 0 0) → Settled (machine m t) (do_exit (caller m t i) (machine m t)) out m t
  unfolding do_exit
  exit-first h a = settled-when badcall _ (eq-eqb (caller m t i).pid 1 (e ∙ h)) c.laid.lays a

  pub exit-ended : {u v : List ℕ} → (x ≡ 1 → ⊥) → Lays u v (ends x (machine m t)) → (Lays u v (ends x (machine m t)) → out ≡ four_of (masked 2 (woken_mask (machine m t) (ends x (machine m t))) (ended_mask (machine m t) (ends x (machine m t)))))
      → Settled (machine m t) (do_exit (caller m t i) (machine m t)) out u v
  unfolding do_exit
  exit-ended h l a =
      settled-past badcall (ne_eqb (caller m t i).pid 1 (λ f. h (sym e ∙ f)))
      (rw (ap (λ (n : ℕ). ends n (machine m t)) e) (settled-masked caller_ended l refl refl (a l)))

-- ---- the sender lives on, or has ended

module _ {u : Machine} {m t : List ℕ} (n : ℕ) (l : Lays m t u) (r : Option ℕ) (f : MatchOption r (get_or m LIVE 0 ≡ place_of n (pids (procs_in m))) (λ k. (k < get_or m LIVE 0) × (k ≡ place_of n (pids (procs_in m))))) where
  lives-found : lives u n ≡ is_some r
  lives-found = go r f
    where
      go : (q : Option ℕ) → MatchOption q (get_or m LIVE 0 ≡ place_of n (pids (procs_in m))) (λ k. (k < get_or m LIVE 0) × (k ≡ place_of n (pids (procs_in m)))) → lives u n ≡ is_some q
      go None e = found_none u n (found_at n l e) (procs-live l.procs)
      go (Some k) e = found-live u n (found_at n l e.1) (rw (procs-live l.procs) at e.0)

  module _ {s : Machine} {out : List ℕ} {kind : AnswerKind} (o : out ≡ four_of (masked (kind_number kind) (woken_mask s u) (ended_mask s u))) where
    pub sent-ended : is_some r ≡ false → kind ≡ CallerEnded → Settled s (outlived n u) out m t
    unfolding outlived
    sent-ended h q = settled-second _ (lives-found ∙ h) (settled-masked caller_ended l refl refl (o ∙ ap (λ (x : AnswerKind). four_of (masked (kind_number x) (woken_mask s u) (ended_mask s u))) q))

    pub sent-done : is_some r ≡ true → kind ≡ Done → Settled s (outlived n u) out m t
    unfolding outlived
    sent-done h q = settled-first _ (lives-found ∙ h) (settled-masked done l refl refl (o ∙ ap (λ (x : AnswerKind). four_of (masked (kind_number x) (woken_mask s u) (ended_mask s u))) q))

-- ---- kill, of the two numbers that it reads

abbrev pub outside : ℕ → ℕ → Bool
outside a b = not (between 1 7 a) || not (between 2 65535 b)

pub bad-signal : (a b : ℕ) → between 1 7 a ≡ false → outside a b ≡ true
bad-signal a b h = or_left (not (between 1 7 a)) _ (rw h refl)

-- the process of that PID, where the sender is not privileged, is the sender's user's
abbrev allowed : Process → Process → Bool
allowed p q = privileged p || eqb p.user.effective q.user.effective

abbrev kill_as : ℕ → ℕ → Process → Machine → Outcome Machine
kill_as a b p s = when (outside a b) badcall (when (not (lives s b)) noproc (when (not (allowed p (process_of s b))) priv (outlived p.pid (arrives a b s))))

-- whether the sender may, by the users that the code has read
module _ {m t : List ℕ} {i : ℕ} (c : Calls m t i) {w : ℕ} (r : w ≡ get_or m (i * PLACE + USER) 0) where
  sender : w ≡ (caller m t i).user.effective
  unfolding numbers
  sender = r ∙ caller-get c USER (omega arith)

  pub may-any : (j : ℕ) → w ≡ 0 → allowed (caller m t i) (caller m t j) ≡ true
  may-any j f = or_left (privileged (caller m t i)) _ (eq-eqb (caller m t i).user.effective 0 (sym sender ∙ f))

  module _ {j z : ℕ} (k : j < get_or m LIVE 0) (d : z ≡ get_or m (j * PLACE + USER) 0) where
    receiver : z ≡ (caller m t j).user.effective
    unfolding numbers
    receiver = d ∙ procs-get c.laid.lays.procs j (let n = procs-live c.laid.lays.procs in omega arith) USER (omega arith)

    pub may-own : w ≡ z → allowed (caller m t i) (caller m t j) ≡ true
    may-own f =
        or_right (privileged (caller m t i)) _ (eq-eqb (caller m t i).user.effective (caller m t j).user.effective (sym sender ∙ f ∙ receiver))

    pub may-not : (w ≡ 0 → ⊥) → (w ≡ z → ⊥) → allowed (caller m t i) (caller m t j) ≡ false
    may-not f g =
        rw (ne_eqb (caller m t i).user.effective 0 (λ q. f (sender ∙ q)), ne_eqb (caller m t i).user.effective (caller m t j).user.effective (λ q. g (sender ∙ q ∙ sym receiver)))

-- what `send` asks of the process that the code has found
pub kill-first : {m t : List ℕ} (l : Laid m t) (b : ℕ) {j : ℕ} → j ≡ place_of b (pids (procs_in m)) → j < get_or m LIVE 0 → j ≡ place_of (caller m t j).pid (pids (machine m t).procs)
kill-first {m} {t} l b p k = found_first (machine m t) b (found_at b l.lays p) (in-procs l k)

module _ {m t : List ℕ} {i : ℕ} (c : Calls m t i) {a b : ℕ} (e : Event) (x : e.d2 ≡ a) (y : e.d3 ≡ b) {out u v : List ℕ} where
  kill-as : Settled (machine m t) (kill_as a b (caller m t i) (machine m t)) out u v → Settled (machine m t) (send_kill (caller m t i) e (machine m t)) out u v
  unfolding send_kill
  kill-as h =
      let q : kill_as a b (caller m t i) (machine m t) ≡ kill_as e.d2 e.d3 (caller m t i) (machine m t) = λ j. kill_as (sym x j) (sym y j) (caller m t i) (machine m t) in
      subst (λ (o : Outcome Machine). Settled (machine m t) o out u v) q h

  kill-found : {j : ℕ} → outside a b ≡ false → j ≡ place_of b (pids (procs_in m)) → j < get_or m LIVE 0
      → Settled (machine m t) (when (not (allowed (caller m t i) (caller m t j))) priv (outlived (caller m t i).pid (arrives a (caller m t j).pid (machine m t)))) out u v → Settled (machine m t) (send_kill (caller m t i) e (machine m t)) out u v
  kill-found {j} h p k g =
      let f = found_at b c.laid.lays p in
      let d = in-procs c.laid k in
      let n = found-live (machine m t) b f d in
      let q : when (not (allowed (caller m t i) (caller m t j))) priv (outlived (caller m t i).pid (arrives a (caller m t j).pid (machine m t))) ≡ when (not (allowed (caller m t i) (process_of (machine m t) b))) priv (outlived (caller m t i).pid (arrives a b (machine m t))) =
      λ z. when (not (allowed (caller m t i) (found-process (machine m t) b f z))) priv (outlived (caller m t i).pid (arrives a (found-pid (machine m t) b f d z) (machine m t))) in
      kill-as (settled-past badcall h (settled-past noproc (rw n) (subst (λ (o : Outcome Machine). Settled (machine m t) o out u v) q g)))

  pub kill-sent : {j : ℕ} → outside a b ≡ false → j ≡ place_of b (pids (procs_in m)) → j < get_or m LIVE 0 → allowed (caller m t i) (caller m t j) ≡ true
      → Settled (machine m t) (outlived (caller m t i).pid (arrives a (caller m t j).pid (machine m t))) out u v → Settled (machine m t) (send_kill (caller m t i) e (machine m t)) out u v
  kill-sent h p k f g = kill-found h p k (settled-past priv (rw f) g)

module _ {m t : List ℕ} {i : ℕ} (c : Calls m t i) {a b : ℕ} (e : Event) (x : e.d2 ≡ a) (y : e.d3 ≡ b) {out : List ℕ} where
  pub kill-outside : outside a b ≡ true → out ≡ four_of (answer_of 3 5 0 0) → Settled (machine m t) (send_kill (caller m t i) e (machine m t)) out m t
  kill-outside h o = kill-as c e x y (settled-when badcall _ h c.laid.lays o)

  module _ (h : outside a b ≡ false) {j : ℕ} (p : j ≡ place_of b (pids (procs_in m))) where
    pub kill-absent : j ≡ get_or m LIVE 0 → out ≡ four_of (answer_of 3 8 0 0) → Settled (machine m t) (send_kill (caller m t i) e (machine m t)) out m t
    kill-absent k o =
        let n = found_none (machine m t) b (found_at b c.laid.lays p) (k ∙ procs-live c.laid.lays.procs) in
        kill-as c e x y (settled-past badcall h (settled-when noproc _ (rw n) c.laid.lays o))

    pub kill-foreign : j < get_or m LIVE 0 → allowed (caller m t i) (caller m t j) ≡ false → out ≡ four_of (answer_of 3 7 0 0) → Settled (machine m t) (send_kill (caller m t i) e (machine m t)) out m t
    kill-foreign k f o = kill-found c e x y h p k (settled-when priv _ (rw f) c.laid.lays o)
