-- One tactic at a goal that a wrong order of the checks makes false, so that the check says so quickly.
use Rattle.scenario.proofs.Common.{arith, rules}
use Rattle.scenario.proofs.parts.basics_at.Goals as goal

pub returns-in_err-rounds-clause-answer : goal.returns-in_err-rounds-clause-answer
returns-in_err-rounds-clause-answer c = search rules

pub returns-clause-lawful : goal.returns-clause-lawful
returns-clause-lawful c = grind arith
