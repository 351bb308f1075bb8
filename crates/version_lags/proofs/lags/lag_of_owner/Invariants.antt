use Rattle.version_lags.proofs.Common.{◌≤◌, map, cell, base_of, NonePassUpto}
use Rattle.version_lags.proofs.lags.lag_of_owner.Given as goal

abbrev pub invariant-loop-place : goal.invariant-loop-place
invariant-loop-place g l = record {
  current : base_of l.list ≤ l.place;
  none : NonePassUpto l.list (cell (map g.N.Number.number l.cells) l.size.nodes l.owner) l.place;
}
