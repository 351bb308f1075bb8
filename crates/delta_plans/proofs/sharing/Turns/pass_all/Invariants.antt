use Rattle.delta_plans.proofs.Common.{HasReached, reached_after}
use Rattle.delta_plans.proofs.sharing.Turns.pass_all.Given as goal

abbrev pub invariant-loop-i : goal.invariant-loop-i
invariant-loop-i g l = HasReached g.N.Number.number l.self l.mark (reached_after g.N.Number.number l.self l.reached l.fn.owner l.i)
