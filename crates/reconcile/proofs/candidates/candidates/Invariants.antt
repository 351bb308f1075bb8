use Rattle.reconcile.specs.inner.Newer.{AreCandidates}
use Rattle.reconcile.proofs.candidates.candidates.Given as goal

abbrev pub invariant-loop-owner : goal.invariant-loop-owner
invariant-loop-owner l = AreCandidates l.table.table l.digest l.receiver l.owner l.found.items
