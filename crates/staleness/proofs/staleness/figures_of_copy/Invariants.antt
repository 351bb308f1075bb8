use Rattle.staleness.proofs.Common.{◌≡◌, lists_in, tables_in}
use Rattle.staleness.specs.inner.Totals.{total_below, triple_figures}
use Rattle.staleness.proofs.staleness.figures_of_copy.Given as goal

abbrev pub invariant-loop-key : goal.invariant-loop-key
invariant-loop-key l = l.total ≡ total_below l.key (triple_figures l.round (tables_in l.tables) (lists_in l.lists) l.node l.owner)
