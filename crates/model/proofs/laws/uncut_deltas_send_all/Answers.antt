use Rattle.model.proofs.DeltaLaws.{sent-uncut}
use Rattle.model.proofs.laws.uncut_deltas_send_all.Goals as goal

pub returns : goal.returns
returns c mode rotation budget from to = sent-uncut mode from to rotation budget
