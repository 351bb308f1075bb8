use Rattle.std.proofs.Common.{arith}
use Rattle.bench_types.proofs.sinks.PushSink.push.Goals as goal

pub returns-in-Ok-clause-stays : goal.returns-in-Ok-clause-stays
returns-in-Ok-clause-stays g c = grind arith

pub returns-in-Ok-clause-some : goal.returns-in-Ok-clause-some
returns-in-Ok-clause-some g c = grind arith
