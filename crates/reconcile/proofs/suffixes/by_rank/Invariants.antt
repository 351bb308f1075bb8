use Rattle.reconcile.proofs.Common.{◌≡◌, ℕ, ◌≤◌, flat_map, amount_of, item_share, rank_among, left_after}
use Rattle.reconcile.specs.inner.Parcels.{first_within}
use Rattle.reconcile.specs.inner.Suffixes.{items_of_suffixes, AreSuffixes, ranked, layered}
use Rattle.reconcile.proofs.suffixes.by_rank.Given as goal

abbrev pub invariant-loop-rank : goal.invariant-loop-rank
invariant-loop-rank l = record {
  budget : l.parcel.budget ≡ l.fn.budget;
  items : l.parcel.items.items ≡ first_within l.fn.budget (layered (rank_among (items_of_suffixes l.initial.suffixes.items)) (items_of_suffixes l.initial.suffixes.items) 0 l.rank);
  left : l.parcel.left ≡ left_after (item_share l.fn.budget) (amount_of l.fn.budget) (layered (rank_among (items_of_suffixes l.initial.suffixes.items)) (items_of_suffixes l.initial.suffixes.items) 0 l.rank);
  are : AreSuffixes l.suffixes.items;
  kept : (n : ℕ) → l.rank ≤ n → flat_map (ranked n) l.suffixes.items ≡ flat_map (ranked n) l.initial.suffixes.items;
}
