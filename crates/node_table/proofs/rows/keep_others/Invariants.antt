use Rattle.node_table.proofs.Common.{FiltersInPlace}
use Rattle.node_table.specs.inner.Layouts.{has_other_key}
use Rattle.node_table.proofs.rows.keep_others.Given as goal

abbrev pub invariant-loop-at : goal.invariant-loop-at
invariant-loop-at l = FiltersInPlace (has_other_key l.key) l.fn.block l.block l.kept l.at
