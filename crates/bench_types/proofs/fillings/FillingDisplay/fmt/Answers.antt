use Rattle.std.proofs.Common.{arith}
use Rattle.std.proofs.lemmas.Grind.{common_steps}
use Rattle.bench_types.proofs.fillings.FillingDisplay.fmt.Goals as goal

pub returns-in-Table-clause-writes : goal.returns-in-Table-clause-writes
returns-in-Table-clause-writes c = grind (arith, common_steps)

pub returns-in-Field-clause-writes : goal.returns-in-Field-clause-writes
returns-in-Field-clause-writes c = grind (arith, common_steps)

pub returns-in-Number-clause-writes : goal.returns-in-Number-clause-writes
returns-in-Number-clause-writes c = grind (arith, common_steps)

pub returns-in-Nothing-clause-writes : goal.returns-in-Nothing-clause-writes
returns-in-Nothing-clause-writes c = grind (arith, common_steps)
