use Rattle.node_table.proofs.Flags.{AreLeft}
use Rattle.node_table.proofs.layouts.unflag.Given as goal

abbrev pub invariant-loop-item : goal.invariant-loop-item
invariant-loop-item l = AreLeft l.rows l.added l.fn.greatest l.greatest l.item-index
