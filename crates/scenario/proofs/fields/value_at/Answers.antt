use Rattle.scenario.proofs.Common.{arith}
use Rattle.scenario.proofs.fields.value_at.Goals as goal

pub returns-in-Some-clause-ok : goal.returns-in-Some-clause-ok
returns-in-Some-clause-ok c = grind arith

pub returns-in-None-clause-fault : goal.returns-in-None-clause-fault
returns-in-None-clause-fault c = grind arith
