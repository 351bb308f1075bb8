use Rattle.run_laws.proofs.Bounds.{staleness_bounded}
use Rattle.run_laws.proofs.laws.staleness_is_bounded.Goals as goal

pub returns : goal.returns
returns c s lawful = staleness_bounded s lawful
