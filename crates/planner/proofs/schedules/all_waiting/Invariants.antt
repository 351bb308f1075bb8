use Rattle.planner.proofs.Common.{◌≡◌, replicate}
use Rattle.planner.specs.declared.schedules.Stage.TheVariants.{Waiting}
use Rattle.planner.proofs.schedules.all_waiting.Given as goal

abbrev pub invariant-loop : goal.invariant-loop
invariant-loop l = l.stages.items ≡ replicate l.counter Waiting
