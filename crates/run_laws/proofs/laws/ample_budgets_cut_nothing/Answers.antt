use Rattle.run_laws.proofs.Ample.{ample_cuts}
use Rattle.run_laws.proofs.laws.ample_budgets_cut_nothing.Goals as goal

pub returns : goal.returns
returns c s lawful = ample_cuts s lawful
