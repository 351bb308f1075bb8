use Rattle.staleness.proofs.Common.{◌≡◌}
use Rattle.staleness.specs.inner.Totals.{total_below, found_at}
use Rattle.staleness.proofs.staleness.joined_all.Given as goal

abbrev pub invariant-loop-part : goal.invariant-loop-part
invariant-loop-part l = l.total ≡ total_below l.part-index (found_at l.parts)
