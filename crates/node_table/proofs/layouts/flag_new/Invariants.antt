use Rattle.node_table.proofs.Flags.{AreSet}
use Rattle.node_table.proofs.layouts.flag_new.Given as goal

abbrev pub invariant-loop-item : goal.invariant-loop-item
invariant-loop-item l = AreSet l.added l.fn.greatest l.greatest l.blocks l.item-index
