use Rattle.reconcile.proofs.SuffixLayers.{IsLongest}
use Rattle.reconcile.proofs.suffixes.longest.Given as goal

abbrev pub invariant-loop-suffix : goal.invariant-loop-suffix
invariant-loop-suffix l = IsLongest l.suffixes l.suffix-index l.most
