use Rattle.std.proofs.Common.{arith}
use Rattle.bench_types.proofs.faults.FaultDisplay.fmt.Goals as goal

pub returns-clause-writes : goal.returns-clause-writes
returns-clause-writes c = grind arith
