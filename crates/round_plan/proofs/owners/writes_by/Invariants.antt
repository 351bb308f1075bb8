use Rattle.round_plan.proofs.Common.{◌≡◌, length, take, map, range_with_len, MOST_WRITES}
use Rattle.round_plan.specs.Generations.{generation_upto}
use Rattle.round_plan.specs.Writes.{own_write_at}
use Rattle.round_plan.specs.calls.Writes.{born_in}
use Rattle.round_plan.proofs.owners.writes_by.Given as goal

abbrev pub invariant-loop-place : goal.invariant-loop-place
invariant-loop-place l =
    (length l.items ≡ MOST_WRITES) × (map (born_in l.round (generation_upto l.scenario l.node l.round)) (take l.place l.items) ≡ map (own_write_at l.scenario l.node l.round l.count_before) (range_with_len 0 l.place))
