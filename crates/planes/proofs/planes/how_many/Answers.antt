use Rattle.planes.proofs.Common.{refl, arith}
use Rattle.planes.proofs.Counts.{count_same}
use Rattle.planes.proofs.planes.how_many.Goals as goal

pub loop-from-preserved : goal.loop-from-preserved
loop-from-preserved g c = record {
  within = omega (arith, c.loop-from.invariant.within, c.loop-from-test.true);
  upto = omega (arith, c.loop-from.invariant.upto, c.how_many_of-count.ensures.upto);
  count = λ test is. c.how_many_of-count.ensures.count test is _ (c.loop-from.invariant.count test is);
}

pub returns-clause-count : goal.returns-clause-count
returns-clause-count g c test is =
    count_same _ _ _ _ _ (c.how_many_of.ensures.count test is _ (c.loop-from.invariant.count test is)) (omega (arith, c.loop-from.invariant.within)) refl

pub how_many_of-requires-clause-passes : goal.how_many_of-requires-clause-passes
how_many_of-requires-clause-passes g c = c.requires.passes

pub how_many_of-count-requires-clause-passes : goal.how_many_of-count-requires-clause-passes
how_many_of-count-requires-clause-passes g c = c.requires.passes
