use Rattle.staleness.proofs.Common.{◌≡◌, ◌*◌, MOST_KEYS, copy_figures, lists_in, tables_in}
use Rattle.staleness.specs.inner.Totals.{total_below, AreFew}
use Rattle.staleness.proofs.staleness.figures_of_node.Given as goal

abbrev pub invariant-loop-owner : goal.invariant-loop-owner
invariant-loop-owner l = record {
  is : l.total ≡ total_below l.owner (copy_figures l.round (tables_in l.tables) (lists_in l.lists) l.node);
  few : AreFew (l.owner * MOST_KEYS) l.total;
}
