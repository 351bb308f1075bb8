use Rattle.version_lags.proofs.Common.{HasCounted}
use Rattle.version_lags.proofs.lags.piece_of.Given as goal

abbrev pub invariant-loop-at : goal.invariant-loop-at
invariant-loop-at g l = HasCounted g.N.Number.number l.numbers l.from l.at l.piece
