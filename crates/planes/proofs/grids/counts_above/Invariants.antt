use Rattle.planes.proofs.Common.{◌≡◌, slice_index, map, cell, count_above, HasEach}
use Rattle.planes.proofs.grids.counts_above.Given as goal

abbrev pub invariant-loop-key : goal.invariant-loop-key
invariant-loop-key g l =
    let number = g.N.Number.number in let cells = cell (map number l.grid.cells.now) l.grid.size.nodes in
    HasEach l.grid.size.nodes (λ r n. n ≡ count_above cells l.key r (slice_index (map number l.low) r)) (map number l.all)
