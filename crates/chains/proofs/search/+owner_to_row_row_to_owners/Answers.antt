-- The proof of the cycle of calls {owner_to_row, row_to_owners}. Assumes nothing.
use Prim.Native.Nat.{◌<◌}
use native.Mathlib.Omega.{arith}
use mathlib.Core.Path.{refl, sym, ◌∙◌}
use mathlib.Core.Bool.{true≢false}
use lib.ListN.{length, length-set}
use borrow.Author.Tests.{eq-eqb}
use Rattle.chains.specs.Chains.{one, more}
use Rattle.chains.proofs.Opened.{shut-set, grown-shut, opened_in, opening, tour-from, tour-past, tour-on}
use Rattle.chains.proofs.Shown.{same-owner, pair, no-pair, row_from, pair-to, row_done, row_past, searched}
use Rattle.chains.proofs.search.+owner_to_row_row_to_owners.Goals as goal
use Rattle.chains.proofs.search.+owner_to_row_row_to_owners.Goals.{owner_to_row-else-conflicts-via-then-conflicts+else-row_to_owners, owner_to_row-then-y-c, owner_to_row-else-y-c, owner_to_row-else-conflicts-via-else-conflicts, owner_to_row-then-x-p+else-loop-a-test, owner_to_row-else-x-p}

pub owner_to_row-pairs-init : goal.owner_to_row-pairs-init
owner_to_row-pairs-init t c =
    let f = c.requires.1 in
    let r = c.requires.0 in
    (refl, tour-from r.size (λ v l q d. f.none v l (row_from d)))

pub owner_to_row-row_to_owners-requires : goal.owner_to_row-row_to_owners-requires
owner_to_row-row_to_owners-requires t c =
    let r = c.requires.0 in
    let g = c.loop-a.invariant.1.grown in
    let m = grown-shut r.size c.pairs.invariant.1.grown in
    let k = grown-shut c.pairs.invariant.1.grown.size g in (
      omega (arith, c.decreases),
      (
        record { room = r.room; stands = omega arith; size = g.size },
        λ h. c.if-y-c.false (same-owner c.cell_at-y.ensures ∙ h ∙ sym (same-owner c.cell_at-c.ensures)),
      ),
    )

pub owner_to_row-loop-a-preserved : goal.owner_to_row-loop-a-preserved
owner_to_row-loop-a-preserved t c =
    let so_far = c.loop-a.invariant in (
      so_far.0,
      elim c.else-conflicts.branch [
        | owner_to_row-else-conflicts-via-then-conflicts+else-row_to_owners w ↦
            elim w.if-y-c.branch [
              | owner_to_row-then-y-c u ↦ absurd (true≢false (sym (eq-eqb _ _ u.if-y-c.true) ∙ sym u.value-is ∙ w.if-row_to_owners.false))
              | owner_to_row-else-y-c u ↦
                  let none = sym u.value-is ∙ w.if-row_to_owners.false in
                  tour-on so_far.1 (u.row_to_owners.ensures.grown none) (λ q d. u.row_to_owners.ensures.had none q (pair-to d)) (w.opened-is ∙ u.opened-is)
            ]
        | owner_to_row-else-conflicts-via-else-conflicts w ↦
            tour-past so_far.1 (λ q d. no-pair c.conflicts.ensures c.cell_at-x.ensures c.cell_at-y.ensures (omega arith) (omega arith) w.if-conflicts.false d) w.opened-is
      ],
    )

pub owner_to_row-pairs-preserved : goal.owner_to_row-pairs-preserved
owner_to_row-pairs-preserved t c =
    let so_far = c.pairs.invariant in (
      elim c.if-x-p.branch [ owner_to_row-then-x-p+else-loop-a-test z ↦ z.found-is ∙ z.loop-a.invariant.0 | owner_to_row-else-x-p z ↦ z.found-is ∙ so_far.0 ],
      elim c.if-x-p.branch [
        | owner_to_row-then-x-p+else-loop-a-test z ↦ row_done so_far.1 z.loop-a.invariant.1 (omega arith) z.opened-is
        | owner_to_row-else-x-p z ↦ row_past so_far.1 (same-owner c.cell_at-x.ensures) (same-owner c.cell_at-p.ensures) z.if-x-p.false z.opened-is
      ],
    )

pub owner_to_row-returns-then-row_to_owners : goal.owner_to_row-returns-then-row_to_owners
owner_to_row-returns-then-row_to_owners t c =
    let from = sym (same-owner c.cell_at-x.ensures) ∙ c.if-x-p.true ∙ same-owner c.cell_at-p.ensures in
    record {
      back =
          λ _ rows s.
          elim c.if-y-c.branch [
            | owner_to_row-then-y-c u ↦ one (pair c.conflicts.ensures c.cell_at-x.ensures c.cell_at-y.ensures (omega arith) (omega arith) c.if-conflicts.true from
                (sym (same-owner c.cell_at-y.ensures) ∙ u.if-y-c.true ∙ same-owner c.cell_at-c.ensures) rows s)
            | owner_to_row-else-y-c u ↦ more (pair c.conflicts.ensures c.cell_at-x.ensures c.cell_at-y.ensures (omega arith) (omega arith) c.if-conflicts.true from refl rows s)
                (u.row_to_owners.ensures.back (sym u.value-is ∙ c.if-row_to_owners.true) rows s)
          ];
      grown = λ e. absurd (true≢false e);
      had = λ e. absurd (true≢false e);
    }

pub owner_to_row-returns-after-x-p : goal.owner_to_row-returns-after-x-p
owner_to_row-returns-after-x-p t c =
    let so_far = c.pairs.invariant in
    searched (elim c.if-x-p.branch [ owner_to_row-then-x-p+else-loop-a-test z ↦ z.found-is ∙ z.loop-a.invariant.0 | owner_to_row-else-x-p z ↦ z.found-is ∙ so_far.0 ])
    (elim c.if-x-p.branch [
      | owner_to_row-then-x-p+else-loop-a-test z ↦ row_done so_far.1 z.loop-a.invariant.1 (omega arith) z.opened-is
      | owner_to_row-else-x-p z ↦ row_past so_far.1 (same-owner c.cell_at-x.ensures) (same-owner c.cell_at-p.ensures) z.if-x-p.false z.opened-is
    ])
    (omega arith)

pub row_to_owners-owner_to_row-requires : goal.row_to_owners-owner_to_row-requires
row_to_owners-owner_to_row-requires t c =
    let s = c.requires.0 in
    let f : c.first_row-k.result < 33 = omega (arith, c.first_row-k.ensures.stands, s.stands, s.room) in
    let d = shut-set c.args.opened.now c.first_row-k.result (omega (arith, s.size)) c.if-opened-k.false in (
      omega (arith, c.decreases),
      (record { room = s.room; stands = s.stands; size = rw length-set s.size }, c.first_row-k.ensures),
    )

pub row_to_owners-returns : goal.row_to_owners-returns
row_to_owners-returns t c =
    let s = c.requires.0 in
    let f : c.first_row-k.result < length c.args.opened.now = omega (arith, s.size, c.first_row-k.ensures.stands, s.stands, s.room) in
    let r = c.owner_to_row.ensures in
    record {
      back = r.back;
      grown = λ e. opening c.args.opened.now c.first_row-k.result f (r.grown e) c.first_row-k.ensures.own (r.had e);
      had = λ e q h. record {
        row = c.first_row-k.result;
        mark = opened_in c.args.opened.now c.first_row-k.result f (r.grown e);
        own = c.first_row-k.ensures.own ∙ h;
        other = λ i. c.requires.1 (h ∙ i);
      };
    }
