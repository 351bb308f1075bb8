use Rattle.delta_plans.proofs.Common.{◌≡◌, ◌+◌, ◌-◌, ◌≤◌, sum_below, owner_weight}
use Rattle.delta_plans.proofs.between.Between.bytes_left_of.Given as goal

abbrev pub decreases-loop-first : goal.decreases-loop-first
decreases-loop-first g l = l.self.offer.now.grid.size.nodes - l.first

abbrev pub invariant-loop-first : goal.invariant-loop-first
invariant-loop-first g l = record {
  within : l.first ≤ l.self.offer.now.grid.size.nodes;
  left : sum_below l.first (owner_weight g.N.Number.number l.self) + l.left ≡ l.room;
}
