-- Fields in file order, and the first that is broken. Assumes nothing.
use Prim.Native.Nat.{ℕ, zero, suc, ◌+◌, ◌-◌, ◌*◌, ◌≤◌, ◌<◌}
use native.Mathlib.Omega.{arith}
use Rattle.std.specs.Prelude.{Ok, Err}
use mathlib.Core.Path.{◌≡◌, refl, sym, ◌∙◌}
use mathlib.Core.Bool.{Bool, true, false, true≢false}
use mathlib.Core.List.{List, [], ◌∷◌, ◌++◌, map}
use lib.Dec.{leb, ltb}
use borrow.Author.Tests.{leb-true, le-leb, lt-ltb}
use Rattle.locks.specs.Lists.{all}
use Rattle.locks.proofs.Tests.{picked, off, and_split, and-join}
use Rattle.locks.proofs.Lists.{all-mono, all-parts}
use Rattle.papers.specs.Layout.{event_count, sequence_count, sequences_at}
use Rattle.papers.specs.Fields.{Field, fault, Rule, rule, keeps, tested, first_of, first_broken, header_rules, name_rules, paper_rules}
use Rattle.papers.specs.Promises.{FirstBroken, rising, InFileOrder}

-- ---- some fields ahead of others

first-nested : (a b c : Field) → first_of (first_of a b) c ≡ first_of a (first_of b c)
first-nested (Ok k) b c = refl
first-nested (Err k) b c = refl

pub first-parts : (file : List ℕ) (xs ys : List Rule) → first_broken file (xs ++ ys) ≡ first_of (first_broken file xs) (first_broken file ys)
first-parts file [] ys = refl
first-parts file (r ∷ xs) ys = rw (first-parts file xs ys) (sym (first-nested (tested file r) (first_broken file xs) (first_broken file ys)))

-- what is left: the event at hand, and those after it
pub names_at : (p : List ℕ) (n i : ℕ) → i < n
    → first_broken p (name_rules p (12 + 20 * i) (n - i))
    ≡ first_of (tested p (rule (12 + 20 * i + 18) 0 (sequence_count p) true)) (first_broken p (name_rules p (12 + 20 * (i + 1)) (n - (i + 1))))
names_at p n i h =
    let e : n - i ≡ suc (n - (i + 1)) = omega arith in
    let f : 12 + 20 * (i + 1) ≡ 12 + 20 * i + 20 = omega arith in
    rw (e, f)

-- ---- what is found: every field keeps its rule, or one is the first that does not

pub data Found (file : List ℕ) (rules : List Rule) : Field → Type 0 where
  none : all (keeps file) rules ≡ true → Found file rules (Ok tt)
  one : (offset : ℕ) → FirstBroken file rules offset → Found file rules (fault offset)

found-behind : (file : List ℕ) (r : Rule) (rules : List Rule) → keeps file r ≡ true → {f : Field} → Found file rules f → Found file (r ∷ rules) f
found-behind file r rules k (none a) = none (and-join (keeps file r) (all (keeps file) rules) k a)
found-behind file r rules k (one offset b) =
    one offset
    record {
      ahead = r ∷ b.ahead;
      broken = b.broken;
      behind = b.behind;
      order = rw b.order;
      kept = and-join (keeps file r) (all (keeps file) b.ahead) k b.kept;
      breaks = b.breaks;
      place = b.place;
    }

pub found : (file : List ℕ) (rules : List Rule) → Found file rules (first_broken file rules)
unfolding tested
found file [] = none refl
found file (r ∷ rules) =
    picked (λ f. Found file (r ∷ rules) (first_of f (first_broken file rules))) (keeps file r) (λ k. found-behind file r rules k (found file rules))
    (λ k. one r.at record { ahead = []; broken = r; behind = rules; order = refl; kept = refl; breaks = k; place = refl })

-- one that is broken: not every field keeps its rule
pub not-all : (file : List ℕ) (rules : List Rule) (offset : ℕ) → FirstBroken file rules offset → all (keeps file) rules ≡ false
not-all file rules offset b =
    off (all (keeps file) rules)
    (λ h. let e = and_split (keeps file b.broken) (all (keeps file) b.behind) (all-parts (keeps file) b.ahead (b.broken ∷ b.behind) (rw b.order at h)).1 in true≢false (sym e.0 ∙ b.breaks))

-- ---- how far into a file the fields lie

abbrev pub lies : ℕ → Rule → Bool
lies end r = leb (r.at + 2) end

pub within : (file : List ℕ) (rules : List Rule) (offset end : ℕ) → all (lies end) rules ≡ true → FirstBroken file rules offset → offset + 2 ≤ end
within file rules offset end h b =
    let e = (all-parts (lies end) b.ahead (b.broken ∷ b.behind) (rw b.order at h)).1 in
    let l : b.broken.at + 2 ≤ end = leb-true _ _ (and_split (lies end b.broken) (all (lies end) b.behind) e).0 in
    omega (arith, b.place)

lie_both : (end : ℕ) (xs ys : List Rule) → all (lies end) xs ≡ true → all (lies end) ys ≡ true → all (lies end) (xs ++ ys) ≡ true
lie_both end [] ys h k = k
lie_both end (r ∷ xs) ys h k =
    let s = and_split (lies end r) (all (lies end) xs) h in
    and-join (lies end r) (all (lies end) (xs ++ ys)) s.0 (lie_both end xs ys s.1 k)

names-lie : (p : List ℕ) (at n : ℕ) → all (lies (at + 20 * n)) (name_rules p at n) ≡ true
names-lie p at zero = refl
names-lie p at (suc n) =
    let end = at + 20 * suc n in
    let e : at + 20 + 20 * n ≡ at + 20 * suc n = omega arith in
    and-join (leb (at + 18 + 2) end) (all (lies end) (name_rules p (at + 20) n)) (le-leb (at + 18 + 2) end (omega arith)) (rw e at (names-lie p (at + 20) n))

-- all fields of a paper lie ahead of its sequences
pub paper-lies : (p : List ℕ) → all (lies (sequences_at p)) (paper_rules p) ≡ true
paper-lies p =
    lie_both (sequences_at p) (header_rules p) (name_rules p 12 (event_count p))
    (all-mono (lies 12) (lies (sequences_at p)) (λ r h. le-leb (r.at + 2) (sequences_at p) (omega (arith, leb-true (r.at + 2) 12 h))) (header_rules p) refl)
    (names-lie p 12 (event_count p))

-- ---- file order

names-rise : (p : List ℕ) (x at n : ℕ) → x < at → rising (x ∷ map (λ r. r.at) (name_rules p at n)) ≡ true
names-rise p x at zero h = refl
names-rise p x at (suc n) h = and-join (ltb x (at + 18)) (rising ((at + 18) ∷ map (λ r. r.at) (name_rules p (at + 20) n))) (lt-ltb x (at + 18) (omega arith)) (names-rise p (at + 18) (at + 20) n (omega arith))

pub in-file-order : InFileOrder
in-file-order = record { papers = λ p. names-rise p 10 12 (event_count p) (omega arith); sheets = λ s. refl }
