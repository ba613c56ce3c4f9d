-- `soundness::state::pids_fit` meets its contract: the PIDs before place i ascend. Assumes nothing.
use Rattle.std.proofs.Common.{◌≡◌, ◌∙◌, ◌<◌, ◌+◌, ℕ, Bool, true, false, ◌&&◌, not, List, [], ◌∷◌, Option, None, Some, Bor, leb, length, get_or, drop, drop-cons, drop_of_length-le, add-one, arith, eqb, eqb-true, refl, sym, le-leb}
use Rattle.std.proofs.lemmas.Bool.{lt-leb}
use borrow.Author.Tests.{not-true, not-false}
use Rattle.std.specs.List.{slice_get}
use Rattle.std.specs.Option.{option_eq, option_copied}
use Rattle.locks.proofs.Tests.{cases}
use Rattle.rules.specs.Sound.{ascend, pids_fit}
use Rattle.soundness.proofs.state.pids_fit.Goals as goal

-- the first is 1
abbrev starts : List ℕ → Bool
starts ns = option_eq eqb (slice_get ns 0) (Some 1)

told : (ns : List ℕ) (m : ℕ) → pids_fit ns m ≡ (starts ns && (ascend 1 ns m && leb m 65536))
unfolding pids_fit ascend
told [] m = refl
told (n ∷ ns) m = cases (eqb n 1) (λ e. rw (eqb-true n 1 e)) (λ e. rw e)

lent : (o : Option (Bor ℕ)) (b : Bor ℕ) → option_eq (λ (x y : Bor ℕ). eqb x.now y.now) o (Some b) ≡ option_eq eqb (option_copied o) (Some b.now)
lent None b = refl
lent (Some x) b = refl

first : (o : Option (Bor ℕ)) (ns : List ℕ) (b : Bor ℕ) {r : Bool} → b.now ≡ 1 → option_copied o ≡ slice_get ns 0 → r ≡ not (option_eq (λ (x y : Bor ℕ). eqb x.now y.now) o (Some b)) → r ≡ not (starts ns)
first o ns b e f g = g ∙ rw (lent o b, f, e)

next : (low i : ℕ) (ns : List ℕ) (m : ℕ) → i < length ns → ascend low (drop i ns) m ≡ (leb low (get_or ns i 0) && ascend (get_or ns i 0 + 1) (drop (i + 1) ns) m)
unfolding ascend
next low i ns m l = rw (add-one i, drop-cons ns i 0 l)

pub returns-then-ne : goal.returns-then-ne
returns-then-ne c =
    let a = c.args in
    let s = first c.first.result a.ns.now _ refl c.first.ensures.value c.ne.ensures in
    rw (told a.ns.now a.next, not-true (starts a.ns.now) (sym s ∙ c.if-ne.true))

pub returns-then-from-low : goal.returns-then-from-low
returns-then-from-low c =
    let a = c.args in
    let i = c.loop-n.n-index in
    let s = first c.first.result a.ns.now _ refl c.first.ensures.value c.ne.ensures in
    let n = next c.loop-n.low i a.ns.now a.next c.loop-n-test.true in
    let e : leb c.loop-n.low (get_or a.ns.now i 0) ≡ false = lt-leb _ _ (omega arith) in
    rw (told a.ns.now a.next, not-false (starts a.ns.now) (sym s ∙ c.if-ne.false), c.loop-n.invariant, n, e)

pub loop-n-preserved : goal.loop-n-preserved
loop-n-preserved c =
    let a = c.args in
    let i = c.loop-n.n-index in
    let e : leb c.loop-n.low (get_or a.ns.now i 0) ≡ true = le-leb _ _ (omega arith) in
    c.loop-n.invariant ∙ next c.loop-n.low i a.ns.now a.next c.loop-n-test.true ∙ rw (e, c.from-low.ensures)

pub returns-then-low-next : goal.returns-then-low-next
unfolding ascend
returns-then-low-next c =
    let a = c.args in
    let s = first c.first.result a.ns.now _ refl c.first.ensures.value c.ne.ensures in
    let e = drop_of_length-le a.ns.now {i = c.loop-n.n-index} c.loop-n-test.false in
    rw (told a.ns.now a.next, not-false (starts a.ns.now) (sym s ∙ c.if-ne.false), c.loop-n.invariant, e, le-leb _ _ c.if-low-next.true)

pub returns-else-low-next : goal.returns-else-low-next
unfolding ascend
returns-else-low-next c =
    let a = c.args in
    let s = first c.first.result a.ns.now _ refl c.first.ensures.value c.ne.ensures in
    let e = drop_of_length-le a.ns.now {i = c.loop-n.n-index} c.loop-n-test.false in
    rw (told a.ns.now a.next, not-false (starts a.ns.now) (sym s ∙ c.if-ne.false), c.loop-n.invariant, e, lt-leb _ _ c.if-low-next.false)
