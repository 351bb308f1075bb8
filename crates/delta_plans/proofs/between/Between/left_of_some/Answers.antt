use Rattle.delta_plans.proofs.Common.{suc, ◌+◌, ap, arith, marks, sum_below, owner_weight}
use Rattle.delta_plans.proofs.WeightLaws.{owner-most, sum_below-longer}
use Rattle.delta_plans.proofs.between.Between.left_of_some.Goals as goal

pub loop-owner-preserved : goal.loop-owner-preserved
loop-owner-preserved g c =
    let number = g.N.Number.number in let self = c.args.self.now in let offer = self.offer.now in let owner = c.loop-owner.owner in
    let next = ap (λ n. sum_below n (owner_weight number self)) {x = owner + 1} {y = suc owner} (omega arith) in
    elim c.if-has.branch [
      | goal.then-has+in_ok-left w ↦
          let weight = rw (c.number_at-from.ensures, c.number_at-to.ensures) at w.weight_of-weight.ensures in
          record { left = omega (arith, next, weight, c.loop-owner.invariant.left, w.in_ok-left.ensures.0, w.in_ok-left.ensures.1, w.left-is) }
      | goal.else-has w ↦
          let most = owner-most number offer offer.grid.size.keys owner (marks number self.low.now owner) (marks number self.high.now owner) in
          let none = c.requires.passed owner c.number_at-from.result c.number_at-to.result c.loop-owner.auto.owner c.loop-owner-test.true
          c.number_at-from.ensures c.number_at-to.ensures (rw w.if-has.false at c.has.ensures) in
          record { left = omega (arith, next, most, none, c.loop-owner.invariant.left, w.left-is) }
    ]

pub returns-in_err-left : goal.returns-in_err-left
returns-in_err-left g c =
    let weight = rw (c.number_at-from.ensures, c.number_at-to.ensures) at c.weight_of-weight.ensures in
    let more = sum_below-longer (owner_weight g.N.Number.number c.args.self.now) (suc c.loop-owner.owner) c.args.end (omega (arith, c.loop-owner-test.true)) in
    rw c.from_residual.ensures (λ fits. c.in_err-left.ensures (omega (arith, fits, more, weight, c.loop-owner.invariant.left)))

pub weight_of-weight-requires : goal.weight_of-weight-requires
weight_of-weight-requires g c = record { is_offer = c.requires.between.is_offer; in_nodes = omega (arith, c.loop-owner-test.true, c.requires.within) }
