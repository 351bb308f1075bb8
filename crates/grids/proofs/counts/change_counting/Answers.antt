use Rattle.grids.proofs.Common.{◌≡◌, ◌+◌, ◌-◌, arith, length}
use Rattle.grids.proofs.Counted.{counted_joined}
use Rattle.grids.proofs.counts.change_counting.Goals as goal

pub loop-numbers-preserved : goal.loop-numbers-preserved
loop-numbers-preserved g c = record {
  within = omega arith;
  counted = counted_joined g.N.Number.number _ _ _ _ 0 _ _ _ _ _ c.loop-numbers.invariant.counted c.change_some_counting-part.ensures (omega arith)
      c.loop-numbers.auto.numbers;
}

pub returns : goal.returns
returns g c =
    let whole : c.loop-numbers.from + (length c.loop-numbers.numbers - c.loop-numbers.from) ≡ length c.args.numbers.now = omega arith in
    rw (← whole) (counted_joined g.N.Number.number _ _ _ _ 0 _ _ _ _ _ c.loop-numbers.invariant.counted c.change_some_counting-part-2.ensures (omega arith)
    c.loop-numbers.auto.numbers)
