use Rattle.model.proofs.Lacking.{candidates-lacked}
use Rattle.model.proofs.laws.candidates_are_lacked.Goals as goal

pub returns : goal.returns
returns c mode from to i = candidates-lacked mode from to i
