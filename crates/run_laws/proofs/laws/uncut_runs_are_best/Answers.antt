use Rattle.run_laws.proofs.Best.{as_good}
use Rattle.run_laws.proofs.laws.uncut_runs_are_best.Goals as goal

pub returns : goal.returns
returns c s lawful rules = as_good s lawful.nodes.0 lawful.nodes.1 lawful.keys.0 lawful.keys.1 rules
