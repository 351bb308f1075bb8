use Rattle.std.proofs.Common.{arith}
use Rattle.std.proofs.lemmas.Grind.{common_steps}
use Rattle.runs.proofs.outputs.ModeRowsRoundWriter.write.Goals as goal

pub returns-clause-fault : goal.returns-clause-fault
returns-clause-fault g c = grind (arith, common_steps)

pub returns-clause-written : goal.returns-clause-written
returns-clause-written g c = grind (arith, common_steps)
