use Rattle.delta_plans.proofs.Common.{◌-◌, HasReached}
use Rattle.delta_plans.proofs.sharing.Turns.share_into.Given as goal

abbrev pub invariant-loop-reached : goal.invariant-loop-reached
invariant-loop-reached g l = record { so_far : HasReached g.N.Number.number l.self l.mark l.reached }

abbrev pub decreases-loop-reached : goal.decreases-loop-reached
decreases-loop-reached g l = l.self.offer.now.grid.size.nodes - l.reached.turn
