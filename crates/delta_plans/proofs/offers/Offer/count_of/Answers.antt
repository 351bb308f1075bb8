use Rattle.delta_plans.proofs.Common.{arith, nat_tests, cells_in, sum_next}
use Rattle.delta_plans.proofs.WeightLaws.{count_between-most}
use Rattle.delta_plans.proofs.offers.Offer.count_of.Goals as goal

pub overflow_add-count : goal.overflow_add-count
overflow_add-count g c =
    let number = g.N.Number.number in
    let few = count_between-most (cells_in number c.args.self.now) c.loop-key.key c.args.owner (number c.args.low) (number c.args.high) in
    grind (arith, nat_tests, c.loop-key.invariant, few, c.from-count.ensures, c.requires.is_offer.grid.few_keys, c.loop-key-test.true)

pub loop-key-preserved : goal.loop-key-preserved
loop-key-preserved g c = sum_next _ _ _ _ c.loop-key.invariant (grind (arith, nat_tests, c.from-count.ensures, c.is_between.ensures, c.cell_of.ensures))

pub cell_of-requires : goal.cell_of-requires
cell_of-requires g c = record { owner = c.requires; key = c.loop-key-test.true }
