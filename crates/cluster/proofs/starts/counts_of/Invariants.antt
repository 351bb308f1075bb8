use Rattle.std.specs.Prelude.{vec_capacity}
use Rattle.cluster.proofs.Common.{◌≡◌, map, take}
use Rattle.cluster.specs.inner.Steps.{counted_in}
use Rattle.cluster.proofs.starts.counts_of.Given as goal

abbrev pub invariant-loop-owner : goal.invariant-loop-owner
invariant-loop-owner g l =
    (l.counts.items ≡ map counted_in (take l.owner (g.K.RoundHistories.kept l.histories).lists)) × (vec_capacity l.counts ≡ l.nodes)
