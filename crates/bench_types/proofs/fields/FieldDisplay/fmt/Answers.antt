use Rattle.std.proofs.Common.{arith}
use Rattle.bench_types.proofs.fields.FieldDisplay.fmt.Goals as goal

pub returns-in_default : goal.returns-in_default
returns-in_default g c = record { writes = λ plain ok. grind arith; styled = tt }

pub returns-in-Top-clause-writes : goal.returns-in-Top-clause-writes
returns-in-Top-clause-writes c = grind arith
