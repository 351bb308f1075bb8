use Rattle.reconcile.proofs.Common.{take}
use Rattle.reconcile.specs.inner.Suffixes.{of_length, AddsLayer}
use Rattle.reconcile.proofs.suffixes.add_long.Given as goal

abbrev pub invariant-loop-suffix : goal.invariant-loop-suffix
invariant-loop-suffix l = AddsLayer (of_length l.len) (take l.suffix-index l.suffixes) l.initial.parcel l.parcel
