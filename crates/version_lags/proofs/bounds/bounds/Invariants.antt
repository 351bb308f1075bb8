use Rattle.version_lags.proofs.Common.{◌-◌, ◌≤◌, AreBounds}
use Rattle.version_lags.proofs.bounds.bounds.Given as goal

abbrev pub decreases-loop-at : goal.decreases-loop-at
decreases-loop-at l = l.tables - l.at

abbrev pub invariant-loop-at : goal.invariant-loop-at
invariant-loop-at l = record { upto : l.at ≤ l.tables; so_far : AreBounds l.at l.bounds.items }
