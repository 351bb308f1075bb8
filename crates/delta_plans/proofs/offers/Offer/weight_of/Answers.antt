use Rattle.delta_plans.proofs.Common.{arith, all_writes, write_numbered, cells_in, nat_tests, number_next}
use Rattle.delta_plans.proofs.WeightLaws.{count_between-most, owner-most, share-most}
use Rattle.delta_plans.proofs.offers.Offer.weight_of.Goals as goal

pub overflow_add-weight : goal.overflow_add-weight
overflow_add-weight g c =
    let number = g.N.Number.number in let offer = c.args.self.now in
    let few = count_between-most (cells_in number offer) c.loop-key.key c.args.owner (number c.args.low) (number c.args.high) in
    let most = owner-most number offer c.loop-key.key c.args.owner (number c.args.low) (number c.args.high) in
    let one = share-most offer.budget (write_numbered (all_writes offer.lists.now c.args.owner) (number c.cell_of-cell.result)) in
    omega (arith, c.loop-key.invariant, few, most, one, c.weight_of_number-weight.ensures, c.requires.is_offer.grid.few_keys, c.loop-key-test.true)

pub loop-key-preserved : goal.loop-key-preserved
loop-key-preserved g c = elim c.if-is_between.branch [
  | goal.then-is_between w ↦ number_next _ c.loop-key.key _ _ c.loop-key.invariant w.weight-is
      (grind (arith, nat_tests, c.cell_of-cell.ensures, c.is_between.ensures, w.if-is_between.true, w.weight_of_number-weight.ensures))
  | goal.else-is_between w ↦ number_next _ c.loop-key.key _ _ {y = 0} c.loop-key.invariant (omega (arith, w.weight-is))
      (grind (arith, nat_tests, c.cell_of-cell.ensures, c.is_between.ensures, w.if-is_between.false))
]

pub cell_of-cell-requires : goal.cell_of-cell-requires
cell_of-cell-requires g c = record { owner = c.requires; key = c.loop-key-test.true }
