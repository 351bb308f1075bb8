use Rattle.grids.proofs.Common.{◌≡◌, ◌-◌, min, ◌∙◌, arith, number-at, sum_next}
use Rattle.grids.proofs.merges.most_ahead.Goals as goal

pub loop-r-preserved : goal.loop-r-preserved
loop-r-preserved g c =
    let held = c.loop-r.invariant in
    let first = number-at g.N.Number.number c.args.first.now c.loop-r.r c.index-first-r.result (omega arith) c.index-first-r.is in
    let second = number-at g.N.Number.number c.args.second.now c.loop-r.r c.index-second-r.result (omega arith) c.index-second-r.is in
    record {
      few = (omega arith, omega arith);
      to_first = omega (arith, sum_next _ c.loop-r.r _ _ held.to_first (c.lead-few_to_first.ensures ∙ (λ i. min c.args.keys (second i - first i))));
      to_second = omega (arith, sum_next _ c.loop-r.r _ _ held.to_second (c.lead-few_to_second.ensures ∙ (λ i. min c.args.keys (first i - second i))));
    }

pub loop-from-preserved : goal.loop-from-preserved
loop-from-preserved g c =
    let all : c.loop-r.r ≡ c.min-end.result = omega arith in
    record {
      within = omega arith;
      upto = (omega arith, omega arith);
      to_first = rw (← all) (omega (arith, c.loop-r.invariant.to_first));
      to_second = rw (← all) (omega (arith, c.loop-r.invariant.to_second));
    }
