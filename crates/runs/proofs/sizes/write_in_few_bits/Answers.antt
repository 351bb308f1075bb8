use Rattle.runs.proofs.Common.{◌+◌, arith}
use Rattle.runs.proofs.Numbers.{below_more}
use Rattle.runs.proofs.sizes.write_in_few_bits.Goals as goal

pub write_in-requires-clause-enough : goal.write_in-requires-clause-enough
write_in-requires-clause-enough g c κs within =
    below_more c.args.scenario (c.most_in_a_run-most.result + 1) 255 c.most_in_a_run-most.ensures.below (omega (arith, c.if-most.true))

pub write_in-requires-then-most-2-clause-enough : goal.write_in-requires-then-most-2-clause-enough
write_in-requires-then-most-2-clause-enough g c κs within =
    below_more c.args.scenario (c.most_in_a_run-most.result + 1) 32767 c.most_in_a_run-most.ensures.below (omega (arith, c.if-most-2.true))

pub write_in-requires-else-most-2-clause-enough : goal.write_in-requires-else-most-2-clause-enough
write_in-requires-else-most-2-clause-enough g c κs within =
    below_more c.args.scenario (c.most_in_a_run-most.result + 1) 4294967295 c.most_in_a_run-most.ensures.below
    (omega (arith, c.most_in_a_run-most.ensures.within))
