use Rattle.reconcile.proofs.Common.{take}
use Rattle.reconcile.specs.inner.Suffixes.{ranked, AddsLayer}
use Rattle.reconcile.proofs.suffixes.add_ranked.Given as goal

abbrev pub invariant-loop-suffix : goal.invariant-loop-suffix
invariant-loop-suffix l = AddsLayer (ranked l.rank) (take l.suffix-index l.suffixes) l.initial.parcel l.parcel
