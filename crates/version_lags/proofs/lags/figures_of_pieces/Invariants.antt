use Rattle.version_lags.proofs.Common.{slice_index, ArePieces, HasCounted}
use Rattle.version_lags.proofs.lags.figures_of_pieces.Given as goal

abbrev pub invariant-loop-counted : goal.invariant-loop-counted
invariant-loop-counted g l =
    (are : ArePieces g.N.Number.number l.numbers l.pieces) → HasCounted g.N.Number.number l.numbers 0 (slice_index are.bounds l.counted-index) l.whole
