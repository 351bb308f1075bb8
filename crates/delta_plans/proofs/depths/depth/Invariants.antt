use Rattle.delta_plans.proofs.LevelSteps.{HasRuns}
use Rattle.delta_plans.proofs.depths.depth.Given as goal

abbrev pub invariant-loop-near : goal.invariant-loop-near
invariant-loop-near g l = record { has : HasRuns g.N.Number.number l.offer l.near.items l.whole l.left l.size }

abbrev pub decreases-loop-near : goal.decreases-loop-near
decreases-loop-near g l = l.size
