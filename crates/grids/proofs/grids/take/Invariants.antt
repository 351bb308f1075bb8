use Rattle.grids.proofs.Common.{◌≡◌, slice_index, map, cell, taken_by, ArePlanesChangedUpto, HasEach, IsRaised}
use Rattle.grids.proofs.grids.take.Given as goal

abbrev pub invariant-loop-key : goal.invariant-loop-key
invariant-loop-key g l =
    let number = g.N.Number.number in let nodes = l.sent.grid.size.nodes in
    let old = map number l.initial.cells in let greatest = slice_index (map number l.initial.greatest) in
    record {
      cells : ArePlanesChangedUpto (λ r k x y. y ≡ taken_by number l.sent r k x) nodes old (map number l.cells) l.key;
      greatest : HasEach nodes (λ r y. IsRaised (λ q k. taken_by number l.sent q k (cell old nodes q k)) l.key r (greatest r) y) (map number l.greatest);
    }
