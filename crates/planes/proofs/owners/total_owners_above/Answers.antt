use Rattle.planes.proofs.Common.{sym, slice_index, ◌∙◌, arith, map, ltb-false, cell}
use Rattle.planes.proofs.Elementwise.{number-at}
use Rattle.planes.proofs.Counts.{owner_counted, owner_passed}
use Rattle.planes.proofs.owners.total_owners_above.Goals as goal
use Rattle.planes.proofs.owners.total_owners_above.Goals.{then-is_above, else-is_above}

pub loop-owner-preserved : goal.loop-owner-preserved
loop-owner-preserved g c =
    let number = g.N.Number.number in let owner = c.loop-owner.owner in let lt = c.loop-owner-test.true in
    let cells = cell (map number c.args.grid.cells.now) c.args.grid.size.nodes in let low = slice_index (map number c.args.low.now) in
    let marks = c.requires.marked.marks in
    let at_low = number-at number c.args.low.now owner c.index-low-owner.result (omega (arith, lt, marks.low_count)) c.index-low-owner.is in
    let at_high = number-at number c.args.high.now owner c.index-high-owner.result (omega (arith, lt, marks.high_count)) c.index-high-owner.is in
    let held = c.loop-owner.invariant in
    elim c.if-is_above.branch [
      | then-is_above w ↦ rw w.total-is (record {
        upto = omega (arith, w.owner_above-total.ensures.upto, marks.shape.few_keys);
        total = owner_counted cells c.args.grid.size.keys low owner _ held.total _ _ w.owner_above-total.ensures.count at_low;
      })
      | else-is_above w ↦ rw w.total-is (record {
        upto = omega arith;
        total = owner_passed cells c.args.grid.size.keys low owner _ held.total _ (c.requires.marked.covered owner lt)
            (omega (arith, at_low, at_high, ltb-false _ _ (sym c.is_above.ensures ∙ w.if-is_above.false)));
      })
    ]
