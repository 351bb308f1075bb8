use Rattle.delta_plans.proofs.Common.{arith}
use Rattle.delta_plans.proofs.RoundMarks.{rounds-count}
use Rattle.delta_plans.proofs.rounds.Rounds.count.Goals as goal

pub overflow_sub-result : goal.overflow_sub-result
overflow_sub-result g c = omega (arith, (rounds-count c.args.self.now c.requires.is_asked c.requires c.total_above-above.ensures).1)

pub returns-in-Oldest : goal.returns-in-Oldest
returns-in-Oldest g c = rw c.in-Oldest.is (omega (arith, (rounds-count c.args.self.now c.requires.is_asked c.requires c.total_above-above.ensures).1))

pub returns-in-Newest : goal.returns-in-Newest
returns-in-Newest g c = rw c.in-Newest.is (rounds-count c.args.self.now c.requires.is_asked c.requires c.total_above-above.ensures).0
