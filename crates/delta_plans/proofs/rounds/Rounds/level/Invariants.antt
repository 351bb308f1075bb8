use Rattle.delta_plans.proofs.Common.{◌-◌, ◌<◌, AreFewAndEnough}
use Rattle.delta_plans.proofs.rounds.Rounds.level.Given as goal

abbrev pub invariant-loop-few : goal.invariant-loop-few
invariant-loop-few g l = record { found : AreFewAndEnough g.N.Number.number l.self l.few l.enough l.fit; step : 0 < l.step }

abbrev pub decreases-loop-few : goal.decreases-loop-few
decreases-loop-few g l = l.enough - l.few
