use Rattle.planes.proofs.Common.{◌≡◌, ◌+◌, ◌-◌, ◌≤◌, length, slice_index, map, cell, count_between, HasEach}
use Rattle.planes.proofs.grids.count_some_between.Given as goal

abbrev pub invariant-loop-key : goal.invariant-loop-key
invariant-loop-key g l = record {
  upto : l.key ≤ l.grid.size.keys;
  each : HasEach (length l.fn.counts) (λ r n. n ≡ count_between (cell (map g.N.Number.number l.grid.cells.now) l.grid.size.nodes) l.key (l.first + r)
      (slice_index (map g.N.Number.number l.low) (l.first + r)) (slice_index (map g.N.Number.number l.high) (l.first + r))) (map g.N.Number.number l.counts);
}

abbrev pub decreases-loop-key : goal.decreases-loop-key
decreases-loop-key g l = l.grid.size.keys - l.key
