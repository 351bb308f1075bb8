use Rattle.grids.proofs.Common.{◌≡◌, ◌≤◌, map, cell, count_above, number_raised, ArePlanesChangedUpto}
use Rattle.grids.proofs.ByOwner.{owner_changed}
use Rattle.grids.proofs.owners.raise_owner.Given as goal

abbrev pub invariant-loop-key : goal.invariant-loop-key
invariant-loop-key g l =
    let number = g.N.Number.number in let nodes = l.others.size.nodes in let others = cell (map number l.others.cells.now) nodes in
    record {
      cells : ArePlanesChangedUpto (owner_changed (λ r k x. number_raised x (others r k) (number l.low)) l.owner) nodes
          (map number l.initial.cells) (map number l.cells) l.key;
      upto : l.count ≤ l.key;
      count : l.count ≡ count_above others l.key l.owner (number l.low);
    }
