use Rattle.reconcile.proofs.Common.{map, take}
use Rattle.reconcile.specs.inner.Newer.{item_with}
use Rattle.reconcile.specs.inner.Parcels.{AddsFitting}
use Rattle.reconcile.proofs.parcels.Parcel.add_entries.Given as goal

abbrev pub invariant-loop-entry : goal.invariant-loop-entry
invariant-loop-entry l = AddsFitting (map (item_with l.owner) (take l.entry-index l.entries)) l.initial.self l.self
