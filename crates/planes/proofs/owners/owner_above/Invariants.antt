use Rattle.planes.proofs.Common.{◌≡◌, ◌≤◌, map, cell, count_above}
use Rattle.planes.proofs.owners.owner_above.Given as goal

abbrev pub invariant-loop-key : goal.invariant-loop-key
invariant-loop-key g l = record {
  upto : l.count ≤ l.key;
  count : l.count ≡ count_above (cell (map g.N.Number.number l.grid.cells.now) l.grid.size.nodes) l.key l.owner (g.N.Number.number l.low);
}
