-- Items on their way into a delta, under a budget. Source: this project.
use Rattle.std.specs.Prelude.{◌≡◌, List, ◌++◌}
use Rattle.bench_types.specs.declared.entries.Item.{Item}
use Rattle.bench_types.specs.declared.exchanges.Budget.{Budget}
use Rattle.model.specs.Deltas.{item_share}
use Rattle.reconcile.specs.declared.parcels.Parcel.{Parcel}
use Rattle.bench_types.specs.Budget.{amount_of}
use Rattle.model.specs.inner.Fitting.{fitting, left_after}

-- of these items those come behind that fit into what is left
pub record AddsFitting (items : List Item) (old new : Parcel) : Type 0 where
  pub budget : new.budget ≡ old.budget
  pub added : new.items.items ≡ old.items.items ++ fitting (item_share old.budget) old.left items
  pub left : new.left ≡ left_after (item_share old.budget) old.left items

-- as many of these items, from the first one on, as a budget has room for
abbrev pub first_within : Budget → List Item → List Item
first_within budget items = fitting (item_share budget) (amount_of budget) items
