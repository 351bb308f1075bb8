use Rattle.scenario.proofs.Common.{arith}
use Rattle.scenario.proofs.tables.RestartsElements.of.Goals as goal

pub returns-clause-lawful : goal.returns-clause-lawful
returns-clause-lawful c = grind arith
