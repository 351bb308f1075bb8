use Rattle.planes.proofs.Common.{◌≡◌, ℕ, ◌-◌, ◌≤◌, Bool, length, slice_index, map, AnswersAs, count_passing}
use Rattle.planes.proofs.planes.how_many.Given as goal

abbrev pub invariant-loop-from : goal.invariant-loop-from
invariant-loop-from g l = record {
  within : l.from ≤ length l.plane;
  upto : l.count ≤ l.from;
  count : (test : ℕ → ℕ → Bool) → AnswersAs g.N.Number.number (goal.F-post g l.passes) (length l.plane) test
      → l.count ≡ count_passing l.from (λ r. test r (slice_index (map g.N.Number.number l.plane) r));
}

abbrev pub decreases-loop-from : goal.decreases-loop-from
decreases-loop-from g l = length l.plane - l.from
