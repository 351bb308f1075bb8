use Rattle.grids.proofs.Common.{map, ArePlanesChangedUpto, number_kept}
use Rattle.grids.proofs.ByOwner.{owner_changed}
use Rattle.grids.proofs.grids.drop_owner.Given as goal

abbrev pub invariant-loop-key : goal.invariant-loop-key
invariant-loop-key g l = ArePlanesChangedUpto (owner_changed (λ r k x. number_kept l.mark x) l.owner) l.size.nodes
    (map g.N.Number.number l.initial.cells) (map g.N.Number.number l.cells) l.key
