use Rattle.work.proofs.Moves.{pushes}
use Rattle.work.proofs.tasks.Tasks.push.Goals as goal

pub push_as-requires-clause-pushes : goal.push_as-requires-clause-pushes
push_as-requires-clause-pushes c = pushes _ _ _
