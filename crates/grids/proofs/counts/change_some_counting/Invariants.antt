use Rattle.grids.specs.inner.Loops.{AreCounted}
use Rattle.grids.proofs.counts.change_some_counting.Given as goal

abbrev pub invariant-loop-i : goal.invariant-loop-i
invariant-loop-i g l =
    let number = g.N.Number.number in
    AreCounted number (goal.F-post g l.to) l.initial.numbers l.numbers l.from l.i (number l.first, number l.second)
