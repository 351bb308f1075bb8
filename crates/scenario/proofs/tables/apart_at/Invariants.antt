use Rattle.scenario.proofs.Common.{◌≡◌, ◌-◌, map, drop, view}
use Rattle.bench_types.specs.declared.fields.Field.TheVariants as field
use Rattle.scenario.specs.inner.Elements.{ascending}
use Rattle.scenario.proofs.Walks.{joined}
use Rattle.scenario.proofs.tables.apart_at.Given as goal

abbrev pub invariant-loop-value : goal.invariant-loop-value
invariant-loop-value l =
    ascending field.PartitionApart 0 (l.nodes - 1) (map view l.values) ≡ joined l.apart.items (ascending field.PartitionApart l.least (l.nodes - 1) (map view (drop l.value-index l.values)))
