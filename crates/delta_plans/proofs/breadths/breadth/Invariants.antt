use Rattle.delta_plans.proofs.Common.{◌*◌, ◌-◌, MOST_KEYS, MOST_NODES}
use Rattle.delta_plans.proofs.LevelSteps.{HasLayers}
use Rattle.delta_plans.proofs.breadths.breadth.Given as goal

abbrev pub invariant-loop-near : goal.invariant-loop-near
invariant-loop-near g l = record { has : HasLayers g.N.Number.number l.offer l.near.items l.whole l.left }

abbrev pub decreases-loop-near : goal.decreases-loop-near
decreases-loop-near g l = MOST_NODES * MOST_KEYS - l.whole
