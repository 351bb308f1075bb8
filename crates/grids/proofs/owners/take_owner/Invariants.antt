use Rattle.grids.proofs.Common.{map, cell, taken_by, ArePlanesChangedUpto, IsRaised}
use Rattle.grids.proofs.ByOwner.{owner_changed}
use Rattle.grids.proofs.owners.take_owner.Given as goal

abbrev pub invariant-loop-key : goal.invariant-loop-key
invariant-loop-key g l =
    let number = g.N.Number.number in let nodes = l.sent.grid.size.nodes in let old = map number l.initial.cells in
    record {
      cells : ArePlanesChangedUpto (owner_changed (taken_by number l.sent) l.owner) nodes old (map number l.cells) l.key;
      greatest : IsRaised (λ r k. taken_by number l.sent r k (cell old nodes r k)) l.key l.owner (number l.initial.greatest) (number l.greatest);
    }
