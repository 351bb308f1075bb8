use Rattle.grids.proofs.Common.{◌≡◌, ℕ, inl, refl, sym, ◌∙◌, arith, map, ltb-false, nat_tests, length-map, cell, taken_by, number-at, number-waits, left_next, written_next, scaled_fits≤, ◌≤◌, length}
use Rattle.grids.proofs.ByOwner.{owner-waits, owners-all, owners-next, owners-stay, raised-same}
use Rattle.grids.proofs.owners.take_owners.Goals as goal
use Rattle.grids.proofs.owners.take_owners.Goals.{then-is_above, else-is_above}

pub loop-owner-preserved : goal.loop-owner-preserved
loop-owner-preserved g c =
    let number = g.N.Number.number in let owner = c.loop-owner.owner in let lt = c.loop-owner-test.true in let held = c.loop-owner.invariant in
    let cells = cell (map number c.args.cells.now) c.args.sent.grid.size.nodes owner in
    elim c.if-is_above.branch [
      | then-is_above w ↦
          let had = number-waits _ _ number c.loop-owner.greatest owner w.index-greatest-owner.result held.greatest (omega arith) w.index-greatest-owner.is in
          let waits = owner-waits _ _ _ _ owner _ held.cells in
          rw (w.cells-is, w.greatest-is) (record {
            cells = owners-next _ _ _ _ owner _ _ _ held.cells w.take_owner.ensures.cells (λ k x. refl);
            greatest = written_next _ _ number _ owner _ held.greatest (omega (arith, length-map c.args.greatest.now number)) (rw (← had)
                (raised-same _ _ _ owner _ _ (λ k in_keys i. taken_by number c.args.sent owner k (waits k lt in_keys i)) w.take_owner.ensures.greatest));
          })
      | else-is_above w ↦
          let low = number-at number c.args.sent.low.now owner c.index-low-owner.result (omega arith) c.index-low-owner.is in
          let high = number-at number c.args.sent.high.now owner c.index-high-owner.result (omega arith) c.index-high-owner.is in
          let upto = ltb-false _ _ (sym c.is_above.ensures ∙ w.if-is_above.false) in
          let none : (k x : ℕ) → taken_by number c.args.sent owner k x ≡ x = λ k x. grind (arith, nat_tests) in
          rw (w.cells-is, w.greatest-is) (record {
            cells = owners-stay _ _ _ _ owner _ held.cells (λ k x in_keys. none k x);
            greatest = left_next _ _ _ owner held.greatest
                (record { rises = omega arith; upto = λ k below. omega (arith, none k (cells k), c.requires.may.covered owner lt k below); from = inl refl });
          })
    ]

pub take_owner-requires : goal.take_owner-requires
take_owner-requires g c =
    let lt = c.loop-owner-test.true in let held = c.loop-owner.invariant in let r = c.loop-owner.owner in
    let had = number-waits _ _ g.N.Number.number c.loop-owner.greatest r c.index-greatest-owner.result held.greatest (omega arith) c.index-greatest-owner.is in
    record {
      beside = omega (arith, c.requires.may.beside, c.loop-owner.auto.cells);
      within = lt;
      low = c.requires.may.low_count;
      high = c.requires.may.high_count;
      covered = λ k in_keys. omega (arith, owner-waits _ _ _ _ r _ held.cells k lt in_keys, c.requires.may.covered r lt k in_keys);
    }

pub returns : goal.returns
returns g c = record {
  cells = owners-all _ _ _ _ c.loop-owner.owner _ c.loop-owner-test.false c.loop-owner.invariant.cells;
  greatest = record {
    size = c.loop-owner.invariant.greatest.size ∙ length-map c.args.greatest.now g.N.Number.number ∙ c.requires.may.greatest_count;
    each = λ r lt. c.loop-owner.invariant.greatest.below r (omega (arith, lt, c.loop-owner-test.false));
  };
}

pub offset_bounds-greatest-owner-then-is_above : goal.offset_bounds-greatest-owner-then-is_above
offset_bounds-greatest-owner-then-is_above g c = let at : c.loop-owner.owner ≤ length c.args.greatest.now = omega arith in search scaled_fits≤

pub offset_bounds-greatest-owner : goal.offset_bounds-greatest-owner
offset_bounds-greatest-owner g c = let at : c.loop-owner.owner ≤ length c.args.greatest.now = omega arith in search scaled_fits≤
