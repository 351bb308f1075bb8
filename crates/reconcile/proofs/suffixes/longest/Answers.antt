use Rattle.reconcile.proofs.SuffixLayers.{no_suffix, longest_more}
use Rattle.reconcile.proofs.suffixes.longest.Goals as goal

pub loop-suffix-preserved : goal.loop-suffix-preserved
loop-suffix-preserved c = longest_more c.args.suffixes.now c.loop-suffix.suffix-index c.loop-suffix.most c.max-most.result no_suffix c.loop-suffix-test.true c.max-most.ensures c.loop-suffix.invariant
