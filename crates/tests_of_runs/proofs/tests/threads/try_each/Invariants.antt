use Rattle.node_table.specs.NodeTableView.{kept_table}
use Rattle.board.specs.Boards.{IsSeatOf}
use Rattle.tests_of_runs.proofs.tests.threads.try_each.Given as goal

abbrev pub invariant-loop-place : goal.invariant-loop-place
invariant-loop-place g l = IsSeatOf kept_table l.worked.seat l.job.board
