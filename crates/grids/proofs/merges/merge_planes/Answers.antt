use Rattle.grids.proofs.Common.{refl, arith, counted-same}
use Rattle.grids.proofs.merges.merge_planes.Goals as goal

pub loop-first-preserved : goal.loop-first-preserved
loop-first-preserved g c =
    let held = c.loop-first.invariant in let parts = c.merge_some-both.ensures.done _ _ _ _ held.first held.second in
    record { within = omega arith; upto = (omega arith, omega arith); first = parts.0; second = parts.1 }

pub returns : goal.returns
returns g c =
    let held = c.loop-first.invariant in let parts = c.merge_some-both-2.ensures.done _ _ _ _ held.first held.second in
    record {
      upto = (omega arith, omega arith);
      first = counted-same _ _ _ _ _ _ _ _ parts.0 (omega arith) refl;
      second = counted-same _ _ _ _ _ _ _ _ parts.1 (omega arith) refl;
    }
