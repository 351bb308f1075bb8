use Rattle.round_plan.proofs.Common.{◌≡◌, length}
use Rattle.round_plan.specs.inner.Streams.{StandBefore}
use Rattle.round_plan.proofs.run_words.parts_before.Given as goal

abbrev pub invariant-loop-node : goal.invariant-loop-node
invariant-loop-node l = (length l.parts.items ≡ l.node) × StandBefore l.scenario.seed l.round l.parts.items
