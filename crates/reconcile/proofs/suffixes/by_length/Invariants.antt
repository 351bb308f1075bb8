use Rattle.reconcile.proofs.Common.{◌≡◌, amount_of, item_share, left_after}
use Rattle.reconcile.specs.inner.Parcels.{first_within}
use Rattle.reconcile.specs.inner.Suffixes.{items_of_suffixes, layered, lengths_first, reversed}
use Rattle.reconcile.proofs.suffixes.by_length.Given as goal

abbrev pub invariant-loop-shorter : goal.invariant-loop-shorter
invariant-loop-shorter l = record {
  budget : l.parcel.budget ≡ l.fn.budget;
  items : l.parcel.items.items ≡ first_within l.fn.budget (layered (lengths_first (items_of_suffixes l.suffixes)) (items_of_suffixes l.suffixes) (reversed l.most) l.shorter);
  left : l.parcel.left ≡ left_after (item_share l.fn.budget) (amount_of l.fn.budget) (layered (lengths_first (items_of_suffixes l.suffixes)) (items_of_suffixes l.suffixes) (reversed l.most) l.shorter);
}
