use Rattle.reconcile.proofs.Common.{◌≡◌, length, take}
use Rattle.reconcile.specs.inner.Suffixes.{items_of_suffixes}
use Rattle.reconcile.proofs.suffixes.count_of.Given as goal

abbrev pub invariant-loop-suffix : goal.invariant-loop-suffix
invariant-loop-suffix l = l.count ≡ length (items_of_suffixes (take l.suffix-index l.suffixes))
