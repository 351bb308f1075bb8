use Rattle.grids.proofs.Common.{◌≡◌, ◌+◌, ◌*◌, ◌-◌, ◌≤◌, length, map, MOST_KEYS, most_ahead}
use Rattle.grids.proofs.merges.most_ahead.Given as goal

abbrev pub invariant-loop-from : goal.invariant-loop-from
invariant-loop-from g l = record {
  within : l.from ≤ length l.first;
  upto : (l.to_first ≤ l.from * MOST_KEYS) × (l.to_second ≤ l.from * MOST_KEYS);
  to_first : l.to_first ≡ most_ahead l.from l.keys (map g.N.Number.number l.second) (map g.N.Number.number l.first);
  to_second : l.to_second ≡ most_ahead l.from l.keys (map g.N.Number.number l.first) (map g.N.Number.number l.second);
}

abbrev pub decreases-loop-from : goal.decreases-loop-from
decreases-loop-from g l = length l.first - l.from

abbrev pub invariant-loop-r : goal.invariant-loop-r
invariant-loop-r g l = record {
  few : (l.few_to_first + l.from * MOST_KEYS ≤ l.r * MOST_KEYS) × (l.few_to_second + l.from * MOST_KEYS ≤ l.r * MOST_KEYS);
  to_first : l.to_first + l.few_to_first ≡ most_ahead l.r l.keys (map g.N.Number.number l.second) (map g.N.Number.number l.first);
  to_second : l.to_second + l.few_to_second ≡ most_ahead l.r l.keys (map g.N.Number.number l.first) (map g.N.Number.number l.second);
}
