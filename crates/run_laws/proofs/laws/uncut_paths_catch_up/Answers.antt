use Rattle.run_laws.proofs.CatchingUp.{paths_catch_up}
use Rattle.run_laws.proofs.laws.uncut_paths_catch_up.Goals as goal

pub returns : goal.returns
returns c s lawful = paths_catch_up s lawful
