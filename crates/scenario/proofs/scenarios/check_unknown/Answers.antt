use Rattle.scenario.proofs.Common.{arith}
use Rattle.scenario.proofs.scenarios.check_unknown.Goals as goal

pub returns-in_err-only_elements-2 : goal.returns-in_err-only_elements-2
returns-in_err-only_elements-2 c = grind arith
