use Rattle.work.proofs.Moves.{takes}
use Rattle.work.proofs.tasks.Way.steal.Goals as goal

pub steal_as-requires-clause-takes : goal.steal_as-requires-clause-takes
steal_as-requires-clause-takes c = takes _ _ 1
