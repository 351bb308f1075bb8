use Rattle.version_lags.proofs.Common.{◌≡◌, map, most_below, most_lag, list_of_owner, cell}
use Rattle.version_lags.proofs.lags.Piece.figures.Given as goal

abbrev pub invariant-loop-owner : goal.invariant-loop-owner
invariant-loop-owner g l = l.greatest
    ≡ most_below l.owner (λ r. most_lag l.numbers.keys l.round (list_of_owner l.numbers.lists.now r) (cell (map g.N.Number.number l.least.cells.now) l.nodes r))
