use Rattle.delta_plans.proofs.Common.{◌+◌, ◌∙◌, arith, sum_below-most, MOST_KEYS, part_weight, sum_next}
use Rattle.delta_plans.proofs.TurnSteps.{from-few}
use Rattle.delta_plans.proofs.sharing.Turns.count_of_parts.Goals as goal

pub loop-i-preserved : goal.loop-i-preserved
loop-i-preserved g c = sum_next _ _ _ _ c.loop-i.invariant (c.widen-count.ensures ∙ c.number_at.ensures ∙ c.requires.counts.each c.loop-i.i c.loop-i-test.true)

pub overflow_add-count : goal.overflow_add-count
overflow_add-count g c =
    let part = part_weight g.N.Number.number (λ _. 1) c.args.self.now in
    let most = sum_below-most (λ i. part (c.args.owner + i)) (c.loop-i.i + 1) MOST_KEYS (λ i _. from-few c.requires.turns (c.args.owner + i) _ _) in
    omega (arith, loop-i-preserved g c, most, c.requires.turns.offer.grid.few_nodes, c.requires.within, c.loop-i-test.true)
