use Rattle.std.specs.Prelude.{◌≡◌, length, vec_capacity}
use Rattle.cluster.proofs.Ahead.{AreWritesUpto}
use Rattle.cluster.proofs.plans.writes_of.Given as goal

abbrev pub invariant-loop-node : goal.invariant-loop-node
invariant-loop-node l = AreWritesUpto l.scenario l.round l.node l.writes.items × (vec_capacity l.writes ≡ length l.before)
