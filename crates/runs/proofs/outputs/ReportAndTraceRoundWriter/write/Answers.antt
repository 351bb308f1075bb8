use Rattle.std.proofs.Common.{arith}
use Rattle.runs.proofs.outputs.ReportAndTraceRoundWriter.write.Goals as goal

pub returns-clause-fault : goal.returns-clause-fault
returns-clause-fault c = grind arith

pub returns-clause-written : goal.returns-clause-written
returns-clause-written c = grind arith
