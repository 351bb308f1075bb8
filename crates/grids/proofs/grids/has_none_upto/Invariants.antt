use Rattle.grids.proofs.Common.{map, cell, HasNoneUptoMark}
use Rattle.grids.proofs.grids.has_none_upto.Given as goal

abbrev pub invariant-loop-key : goal.invariant-loop-key
invariant-loop-key g l = HasNoneUptoMark (cell (map g.N.Number.number l.cells) l.size.nodes) l.key l.owner (g.N.Number.number l.mark)
