use Rattle.delta_plans.proofs.Common.{◌≡◌, parts_count}
use Rattle.delta_plans.proofs.sharing.Turns.count_of_parts.Given as goal

abbrev pub invariant-loop-i : goal.invariant-loop-i
invariant-loop-i g l = l.count ≡ parts_count g.N.Number.number l.self l.owner l.i
