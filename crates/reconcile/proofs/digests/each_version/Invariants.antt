use Rattle.reconcile.proofs.Dense.{AreFilled}
use Rattle.reconcile.proofs.digests.each_version.Given as goal

abbrev pub invariant-loop-owner : goal.invariant-loop-owner
invariant-loop-owner l = AreFilled l.table.table l.owner l.versions.items
