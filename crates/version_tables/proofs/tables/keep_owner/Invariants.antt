use Rattle.version_tables.proofs.Common.{◌≡◌, ◌==◌, map, if◌then◌else◌, ArePlanesChangedUpto}
use Rattle.version_tables.proofs.tables.keep_owner.Given as goal

abbrev pub invariant-loop-key : goal.invariant-loop-key
invariant-loop-key g l =
    ArePlanesChangedUpto (λ r k x y. y ≡ (if r == l.owner then x else 0)) l.size.nodes
    (map g.N.Number.number l.initial.cells) (map g.N.Number.number l.cells) l.key
