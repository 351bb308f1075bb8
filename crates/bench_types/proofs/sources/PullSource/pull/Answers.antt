use Rattle.std.proofs.Common.{arith}
use Rattle.bench_types.proofs.sources.PullSource.pull.Goals as goal

pub returns-in-Ok-clause-stays : goal.returns-in-Ok-clause-stays
returns-in-Ok-clause-stays g c = λ failed. grind arith

pub returns-in-Err-clause-stays : goal.returns-in-Err-clause-stays
returns-in-Err-clause-stays g c = λ failed. grind arith
