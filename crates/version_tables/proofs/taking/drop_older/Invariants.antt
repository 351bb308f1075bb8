use Rattle.version_tables.proofs.Common.{map, ArePlanesChanged, owners_changed, drop_starts, number_kept}
use Rattle.version_tables.proofs.taking.drop_older.Given as goal

abbrev pub invariant-loop-owner : goal.invariant-loop-owner
invariant-loop-owner g l =
    ArePlanesChanged (owners_changed (λ r k. number_kept (drop_starts g.N.Number.number l.owners l.before l.greatest r)) l.owner)
    l.size.nodes l.size.keys (map g.N.Number.number l.initial.cells) (map g.N.Number.number l.cells)
