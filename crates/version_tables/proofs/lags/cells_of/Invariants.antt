use Rattle.version_tables.proofs.Common.{numbers_in, take, AreCellsOf}
use Rattle.version_tables.proofs.lags.cells_of.Given as goal

abbrev pub invariant-loop-table : goal.invariant-loop-table
invariant-loop-table g l = AreCellsOf g.H.Written.lists (take l.table-index l.tables) (numbers_in g.N.Number.number l.cells.items)
