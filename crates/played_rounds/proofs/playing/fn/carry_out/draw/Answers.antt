use Rattle.played_rounds.proofs.Common.{◌+◌, ◌≤◌, subst, IfSome}
use Rattle.limits.specs.declared.TheConstants.{MOST_ROUNDS}
use Rattle.played_rounds.proofs.playing.fn.carry_out.draw.Goals as goal

pub next_plan-requires-clause-last : goal.next_plan-requires-clause-last
next_plan-requires-clause-last g c _ _ = subst (λ o. IfSome o (λ _. c.captures.round + 1 ≤ MOST_ROUNDS)) c.in-Some.is c.requires.another
