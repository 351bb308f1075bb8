use Rattle.planes.proofs.Common.{◌≡◌, ◌*◌, ◌≤◌, slice_index, map, sum_below, cell, count_above, MOST_KEYS}
use Rattle.planes.proofs.owners.total_owners_above.Given as goal

abbrev pub invariant-loop-owner : goal.invariant-loop-owner
invariant-loop-owner g l =
    let number = g.N.Number.number in
    record {
      upto : l.total ≤ l.owner * MOST_KEYS;
      total : l.total
          ≡ sum_below l.owner (λ r. count_above (cell (map number l.grid.cells.now) l.grid.size.nodes) l.grid.size.keys r (slice_index (map number l.low) r));
    }
