use Rattle.node_table.specs.NodeTableView.{kept_table}
use Rattle.board.specs.Boards.{IsSeatOf}
use Rattle.tests_of_runs.proofs.tests.threads.work.Given as goal

abbrev pub invariant-loop : goal.invariant-loop
invariant-loop g l = IsSeatOf kept_table l.worked.seat l.job.board
