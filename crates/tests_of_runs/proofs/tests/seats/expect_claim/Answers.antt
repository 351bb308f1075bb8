use Rattle.node_table.specs.NodeTableView.{kept_table}
use Rattle.board.specs.Boards.{plan_of, seat_view}
use Rattle.board.proofs.Claimed.{parts_stay, held_stay}
use Rattle.tests_of_runs.proofs.tests.seats.expect_claim.Goals as goal

pub returns-clause-parts : goal.returns-clause-parts
returns-clause-parts g c = parts_stay kept_table (plan_of kept_table c.args.board.now) (seat_view c.args.seat.now) c.args.i c.claim-claim.result (seat_view c.claim-claim.new.seat) c.claim-claim.ensures.claim

pub returns-clause-held : goal.returns-clause-held
returns-clause-held g c = held_stay kept_table (plan_of kept_table c.args.board.now) (seat_view c.args.seat.now) c.args.i c.claim-claim.result (seat_view c.claim-claim.new.seat) c.claim-claim.ensures.claim
