use Rattle.board.proofs.Meeting.{may_be_exchanged}
use Rattle.board.proofs.laws.every_hold_may_be_exchanged.Goals as goal

pub returns : goal.returns
returns g c = may_be_exchanged g.T.MemoryTable.table
