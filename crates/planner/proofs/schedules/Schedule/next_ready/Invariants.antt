use Rattle.planner.proofs.Common.{ℕ, ◌<◌}
use Rattle.planner.specs.Stages.{CanStart}
use Rattle.planner.proofs.schedules.Schedule.next_ready.Given as goal

abbrev pub invariant-loop-i : goal.invariant-loop-i
invariant-loop-i l = (j : ℕ) → j < l.i → ¬ (CanStart l.self j)
