-- What a whole seat was told, knows and has freed is its own, for the law `every_whole_seat_knows_its_own`.
-- Serves `every_whole_seat_knows_its_own`.
use Rattle.board.proofs.Common.{refl}
use Rattle.board.specs.Seats.{resting}
use Rattle.board.specs.Laws.{EachWholeSeatKnowsItsOwn}
use Rattle.board.proofs.Telling.{its_own}

pub knows_its_own : EachWholeSeatKnowsItsOwn
knows_its_own plan s k v o me whole = its_own plan s o k (resting plan v) me refl refl whole
