use Rattle.board.proofs.Scheduled.{keeps_a_schedule}
use Rattle.board.proofs.laws.every_board_keeps_a_schedule.Goals as goal

pub returns : goal.returns
returns c = keeps_a_schedule
