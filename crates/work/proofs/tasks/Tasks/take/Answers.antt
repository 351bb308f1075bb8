use Rattle.work.proofs.Moves.{takes}
use Rattle.work.proofs.tasks.Tasks.take.Goals as goal

pub pop_as-requires-clause-fifo : goal.pop_as-requires-clause-fifo
pop_as-requires-clause-fifo c = λ _. takes _ _ 1
