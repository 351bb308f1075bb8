use Rattle.delta_plans.proofs.SentSets.{set_sent}
use Rattle.delta_plans.proofs.laws.deltas_have_their_sets.Goals as goal

pub returns : goal.returns
returns c = set_sent
