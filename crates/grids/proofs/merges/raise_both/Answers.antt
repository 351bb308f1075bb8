use Rattle.grids.proofs.Common.{max, ◌∙◌, arith, length-map, number-waits, written_next}
use Rattle.grids.proofs.merges.raise_both.Goals as goal

pub loop-r-preserved : goal.loop-r-preserved
loop-r-preserved g c =
    let number = g.N.Number.number in
    let first = number-waits _ _ number c.loop-r.first c.loop-r.r c.index-first-r.result c.loop-r.invariant.first (omega arith) c.index-first-r.is in
    let second = number-waits _ _ number c.loop-r.second c.loop-r.r c.index-second-r.result c.loop-r.invariant.second (omega arith) c.index-second-r.is in
    record {
      first = written_next _ _ number _ _ c.max_with.result c.loop-r.invariant.first (omega (arith, length-map c.args.first.now number))
          (c.max_with.ensures ∙ (λ i. max (first i) (second i)));
      second = written_next _ _ number _ _ c.max_with-in-loop-r.result c.loop-r.invariant.second (omega (arith, length-map c.args.second.now number))
          (c.max_with-in-loop-r.ensures ∙ (λ i. max (second i) (first i)));
    }
