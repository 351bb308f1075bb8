use Rattle.grids.proofs.Common.{map, AreChangedUpto, cell, taken_by, ArePlanesChanged, IsRaised}
use Rattle.grids.proofs.ByOwner.{owners_changed}
use Rattle.grids.proofs.owners.take_owners.Given as goal

abbrev pub invariant-loop-owner : goal.invariant-loop-owner
invariant-loop-owner g l =
    let number = g.N.Number.number in let size = l.sent.grid.size in let old = map number l.initial.cells in
    record {
      cells : ArePlanesChanged (owners_changed (taken_by number l.sent) l.owner) size.nodes size.keys old (map number l.cells);
      greatest : AreChangedUpto (λ r x y. IsRaised (λ q k. taken_by number l.sent q k (cell old size.nodes q k)) size.keys r x y)
          (map number l.initial.greatest) (map number l.greatest) l.owner;
    }
