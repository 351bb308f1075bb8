use Rattle.std.proofs.lemmas.Grind.{common_steps}
use Rattle.scenario.proofs.Common.{arith}
use Rattle.scenario.proofs.arrays.elements_at.Goals as goal

pub returns-else-values-le-MOST_ELEMENTS-clause-fault : goal.returns-else-values-le-MOST_ELEMENTS-clause-fault
returns-else-values-le-MOST_ELEMENTS-clause-fault c = grind (arith, common_steps)

pub returns-then-values-le-MOST_ELEMENTS-clause-ok : goal.returns-then-values-le-MOST_ELEMENTS-clause-ok
returns-then-values-le-MOST_ELEMENTS-clause-ok c = grind (arith, common_steps)
