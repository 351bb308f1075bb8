use Rattle.grids.proofs.Common.{◌-◌, ◌≤◌, length, AreCounted}
use Rattle.grids.proofs.counts.change_counting.Given as goal

abbrev pub invariant-loop-numbers : goal.invariant-loop-numbers
invariant-loop-numbers g l = record {
  within : l.from ≤ length l.initial.numbers;
  counted : AreCounted g.N.Number.number (goal.F-post g l.to) l.initial.numbers l.numbers 0 l.from (l.first, l.second);
}

abbrev pub decreases-loop-numbers : goal.decreases-loop-numbers
decreases-loop-numbers g l = length l.initial.numbers - l.from
