use Rattle.reconcile.proofs.Common.{arith}
use Rattle.reconcile.proofs.SuffixLayers.{no_suffix, length-suffix}
use Rattle.reconcile.proofs.suffixes.count_of.Goals as goal

pub overflow_add-count : goal.overflow_add-count
overflow_add-count c = omega (arith, c.requires, c.loop-suffix.invariant, length-suffix c.args.suffixes.now c.loop-suffix.suffix-index no_suffix c.loop-suffix-test.true)
