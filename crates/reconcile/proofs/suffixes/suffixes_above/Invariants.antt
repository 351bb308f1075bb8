use Rattle.reconcile.proofs.Found.{AreFound}
use Rattle.reconcile.proofs.suffixes.suffixes_above.Given as goal

abbrev pub invariant-loop-owner : goal.invariant-loop-owner
invariant-loop-owner l = AreFound l.table.table l.digest l.receiver l.owner l.suffixes.items

abbrev pub invariant-loop-owner-else-is_empty : goal.invariant-loop-owner-else-is_empty
invariant-loop-owner-else-is_empty l = AreFound l.table.table l.digest l.receiver l.owner l.suffixes.items
