use Rattle.scenario.proofs.Settled.{Says-once}
use Rattle.scenario.proofs.laws.documents_fix_settings.Goals as goal

pub returns : goal.returns
returns c = Says-once
