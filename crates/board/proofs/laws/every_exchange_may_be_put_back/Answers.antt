use Rattle.board.proofs.Returning.{may_be_put_back}
use Rattle.board.proofs.laws.every_exchange_may_be_put_back.Goals as goal

pub returns : goal.returns
returns g c = may_be_put_back g.T.MemoryTable.table
