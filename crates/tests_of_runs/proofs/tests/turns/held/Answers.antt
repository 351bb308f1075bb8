use Rattle.node_table.specs.NodeTableView.{kept_table}
use Rattle.board.specs.Boards.{plan_of, seat_view}
use Rattle.board.proofs.Claimed.{now_held}
use Rattle.tests_of_runs.proofs.tests.turns.held.Goals as goal

pub returns-clause-held : goal.returns-clause-held
returns-clause-held g c = now_held kept_table (plan_of kept_table c.args.board.now) (seat_view c.args.seat.now) c.args.i c.in-Held.hold (seat_view c.claim.new.seat) c.in-Held.ensures.claim
