use Rattle.round_plan.proofs.Common.{◌≡◌, ℕ, ◌<◌, get_or, false, Partition}
use Rattle.round_plan.specs.Outages.{separates}
use Rattle.round_plan.proofs.outages.separated.Given as goal

abbrev pub invariant-loop-partition : goal.invariant-loop-partition
invariant-loop-partition l =
    (k : ℕ) (d : Partition) → k < l.partition-index → separates l.p l.q l.round (get_or l.scenario.partitions k d) ≡ false
