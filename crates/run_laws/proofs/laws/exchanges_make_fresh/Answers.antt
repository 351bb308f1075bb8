use Rattle.run_laws.proofs.Paths.{exchanges_fresh}
use Rattle.run_laws.proofs.laws.exchanges_make_fresh.Goals as goal

pub returns : goal.returns
returns c s lawful = exchanges_fresh s lawful
