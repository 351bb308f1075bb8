use Rattle.grids.proofs.Common.{◌≡◌, ◌*◌, ◌≤◌, map, max, nat_lt, slice_index, cell, cond, number_ahead, sum_below}
use Rattle.grids.proofs.Counted.{ArePlanesCounted}
use Rattle.grids.proofs.grids.ahead_of_both.Given as goal

abbrev pub invariant-loop-key : goal.invariant-loop-key
invariant-loop-key g l =
    let number = g.N.Number.number in let nodes = l.size.nodes in
    let cells = cell (map number l.cells) nodes in let peer = cell (map number l.peer.cells.now) nodes in
    let low = slice_index (map number l.low) in
    record {
      upto : (l.count ≤ l.key * nodes) × (l.held ≤ l.key * nodes);
      kept : ArePlanesCounted (λ r k x y. y ≡ number_ahead (cells r k) (peer r k) (low r)) (λ r k. nat_lt (max (peer r k) (low r)) (cells r k))
          nodes (map number l.initial.all) (map number l.all) l.key l.count;
      held : l.held ≡ sum_below l.key (λ k. sum_below nodes (λ r. cond (nat_lt 0 (cells r k)) 1 0));
    }
