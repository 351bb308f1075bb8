use Rattle.node_table.specs.NodeTableView.{kept_table}
use Rattle.board.specs.Boards.{plan_of, seat_view}
use Rattle.board.proofs.Claimed.{now_held}
use Rattle.tests_of_runs.proofs.tests.threads.try_one.Goals as goal

pub carry_out-requires-clause-held : goal.carry_out-requires-clause-held
carry_out-requires-clause-held g c = now_held kept_table (plan_of kept_table c.args.job.now.board) (seat_view c.args.worked.now.seat) c.args.i c.in-Held.hold (seat_view c.claim.new.seat) c.in-Held.ensures.claim
