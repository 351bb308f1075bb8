use Rattle.delta_plans.proofs.Common.{◌<◌, ◌≤◌, arith, nat_tests, below_more, number-at, marks}
use Rattle.delta_plans.proofs.depths.next_size_below.Goals as goal

pub loop-r-preserved : goal.loop-r-preserved
loop-r-preserved g c =
    let number = g.N.Number.number in let counts = c.args.counts.now in
    let here = number-at number counts c.loop-r.r c.index-counts-r.result (omega (arith, c.loop-r-test.true)) c.index-counts-r.is in
    let raised = c.max_with-longest.ensures in let longest = number c.max_with-longest.result in let count = marks number counts c.loop-r.r in
    let next : (longest < c.args.bound) × (count < c.args.bound → count ≤ longest) =
    grind (arith, nat_tests, here, c.is_upto.ensures, c.narrow-last.ensures, c.pick.ensures, c.zero.ensures, raised, c.loop-r.invariant.below) in
    record {
      below = next.0;
      none = below_more (λ k. marks number counts k < c.args.bound → marks number counts k ≤ longest) c.loop-r.r
          (λ r lt less. omega (arith, c.loop-r.invariant.none r lt less, raised)) next.1;
    }
