use Rattle.model.proofs.DeltaLaws.{sent-ascending}
use Rattle.model.proofs.laws.scuttle_deltas_ascend.Goals as goal

pub returns : goal.returns
returns c mode rotation budget from to scuttle = sent-ascending mode from to rotation budget scuttle
