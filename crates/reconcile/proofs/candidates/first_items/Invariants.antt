use Rattle.reconcile.proofs.Common.{take}
use Rattle.reconcile.specs.inner.Parcels.{AddsFitting}
use Rattle.reconcile.proofs.candidates.first_items.Given as goal

abbrev pub invariant-loop-item : goal.invariant-loop-item
invariant-loop-item l = AddsFitting (take l.item-index l.items) l.initial.parcel l.parcel
