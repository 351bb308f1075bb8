use Rattle.grids.proofs.Common.{sym, ◌∙◌, arith, ltb-false, ltb-true, number-at, sum_whole}
use Rattle.grids.proofs.ByOwner.{come-next, come-passed, owners-all}
use Rattle.grids.proofs.owners.merge_owners.Goals as goal
use Rattle.grids.proofs.owners.merge_owners.Goals.{then-is_above, else-is_above+then-is_above-2, else-is_above+else-is_above-2}

pub loop-owner-preserved : goal.loop-owner-preserved
loop-owner-preserved g c =
    let number = g.N.Number.number in let owner = c.loop-owner.owner in let lt = c.loop-owner-test.true in let first = c.loop-owner.invariant.first in
    let second = c.loop-owner.invariant.second in
    let at_first = number-at number c.args.marks.first.now owner c.index-first_low-owner.result (omega arith) c.index-first_low-owner.is in
    let at_second = number-at number c.args.marks.second.now owner c.index-second_low-owner.result (omega arith) c.index-second_low-owner.is in
    let first_passes = come-passed _ _ _ _ _ owner _ _ _ first (c.requires.marked.second_covered owner lt) in
    let second_passes = come-passed _ _ _ _ _ owner _ _ _ second (c.requires.marked.first_covered owner lt) in
    elim c.if-is_above.branch [
      | then-is_above w ↦ rw (w.first-is, w.second-is, w.to_first-is, w.to_second-is) (record {
        upto = (omega arith, omega arith);
        first = come-next _ _ _ _ _ number owner _ _ _ _ _ _ _ _ lt second first at_first w.raise_owner-to_first.ensures;
        second = second_passes (omega (arith, ltb-true _ _ (sym c.is_above.ensures ∙ w.if-is_above.true)));
      })
      | else-is_above+then-is_above-2 w ↦ rw (w.first-is, w.second-is, w.to_first-is, w.to_second-is) (record {
        upto = (omega arith, omega arith);
        first = first_passes (omega (arith, ltb-false _ _ (sym c.is_above.ensures ∙ w.if-is_above.false)));
        second = come-next _ _ _ _ _ number owner _ _ _ _ _ _ _ _ lt first second at_second w.raise_owner-to_second.ensures;
      })
      | else-is_above+else-is_above-2 w ↦ rw (w.first-is, w.second-is, w.to_first-is, w.to_second-is) (record {
        upto = (omega arith, omega arith);
        first = first_passes (omega (arith, ltb-false _ _ (sym c.is_above.ensures ∙ w.if-is_above.false)));
        second = second_passes (omega (arith, ltb-false _ _ (sym w.is_above-else-is_above.ensures ∙ w.if-is_above-2.false)));
      })
    ]

pub returns : goal.returns
returns g c =
    let held = c.loop-owner.invariant in
    record {
      first = owners-all _ _ _ _ c.loop-owner.owner _ c.loop-owner-test.false held.first.cells;
      second = owners-all _ _ _ _ c.loop-owner.owner _ c.loop-owner-test.false held.second.cells;
      first_count = sum_whole _ c.loop-owner.owner _ _ held.first.count c.loop-owner-test.false c.loop-owner.auto.owner-end;
      second_count = sum_whole _ c.loop-owner.owner _ _ held.second.count c.loop-owner-test.false c.loop-owner.auto.owner-end;
    }
