use Rattle.delta_plans.proofs.Common.{◌≤◌, IsStopSoFar}
use Rattle.std.specs.Int.{abs_diff}
use Rattle.delta_plans.proofs.sharing.Turns.stop_of.Given as goal

abbrev pub invariant-loop-middle : goal.invariant-loop-middle
invariant-loop-middle g l = record {
  so_far : IsStopSoFar g.N.Number.number l.self l.fn.owner l.fn.room l.fits l.beyond l.left;
  fits : l.fits ≤ g.N.Number.most;
  beyond : l.beyond ≤ g.N.Number.most;
}

abbrev pub decreases-loop-middle : goal.decreases-loop-middle
decreases-loop-middle g l = abs_diff l.fits l.beyond
