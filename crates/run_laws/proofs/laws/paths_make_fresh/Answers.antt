use Rattle.run_laws.proofs.Paths.{paths_fresh}
use Rattle.run_laws.proofs.laws.paths_make_fresh.Goals as goal

pub returns : goal.returns
returns c s lawful = paths_fresh s lawful
