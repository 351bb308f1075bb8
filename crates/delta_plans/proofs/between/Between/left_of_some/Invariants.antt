use Rattle.delta_plans.proofs.Common.{◌≡◌, ◌+◌, sum_below, owner_weight}
use Rattle.delta_plans.proofs.between.Between.left_of_some.Given as goal

abbrev pub invariant-loop-owner : goal.invariant-loop-owner
invariant-loop-owner g l =
    let weight = owner_weight g.N.Number.number l.self in record { left : sum_below l.owner weight + l.left ≡ sum_below l.first weight + l.room }
