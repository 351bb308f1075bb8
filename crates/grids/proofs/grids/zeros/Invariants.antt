use Rattle.grids.proofs.Common.{◌≡◌, ◌-◌, ◌≤◌, length, map, All}
use Rattle.grids.proofs.grids.zeros.Given as goal

abbrev pub invariant-loop-filled : goal.invariant-loop-filled
invariant-loop-filled g l = record {
  size : length l.numbers.items ≡ l.filled;
  within : l.filled ≤ l.count;
  each : All (λ n. n ≡ 0) (map g.N.Number.number l.numbers.items);
}

abbrev pub decreases-loop-filled : goal.decreases-loop-filled
decreases-loop-filled g l = l.count - l.filled
