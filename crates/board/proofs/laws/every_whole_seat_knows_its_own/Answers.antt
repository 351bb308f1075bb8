use Rattle.board.proofs.Knowing.{knows_its_own}
use Rattle.board.proofs.laws.every_whole_seat_knows_its_own.Goals as goal

pub returns : goal.returns
returns c = knows_its_own
