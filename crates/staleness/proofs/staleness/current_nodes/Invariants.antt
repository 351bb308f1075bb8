use Rattle.staleness.proofs.Common.{lists_in, tables_in}
use Rattle.staleness.specs.inner.Totals.{AreCurrent}
use Rattle.staleness.proofs.staleness.current_nodes.Given as goal

abbrev pub invariant-loop-node : goal.invariant-loop-node
invariant-loop-node l = AreCurrent l.round (tables_in l.tables) (lists_in l.lists) l.node l.current.items
