-- What a digest of greatest marks doesn't know, as suffixes: the entries of one owner, ascending by version. A budget
-- is shared out among the suffixes layer by layer: in a layer each suffix sends its entries of one rank, or the suffixes of one
-- length send all. Source: this project, after the two orders of the LADIS 2008 paper.
use Rattle.std.specs.Prelude.{◌≡◌, ◌≢◌, ℕ, zero, suc, ◌+◌, ◌-◌, ◌<◌, ◌≤◌, ◌==◌, nat_lt, List, [], ◌++◌, length, take, drop, filter, map, count_by, All, if◌then◌else◌}
use Rattle.std.specs.List.{AllPairs, flat_map}
use Rattle.bench_types.specs.declared.entries.Entry.{Entry}
use Rattle.bench_types.specs.declared.entries.Item.{Item}
use Rattle.bench_types.specs.declared.exchanges.Budget.{Budget}
use Rattle.node_table.specs.Entries.{StandsBefore}
use Rattle.reconcile.specs.inner.Parcels.{first_within, AddsFitting}
use Rattle.reconcile.specs.inner.Newer.{item_with}
use Rattle.model.specs.Order.{owner_count}
use Rattle.reconcile.specs.declared.parcels.Parcel.{Parcel}
use Rattle.reconcile.specs.declared.suffixes.Suffix.{Suffix}

abbrev pub suffix_items : Suffix → List Item
suffix_items r = map (item_with r.owner) r.entries.now

abbrev pub items_of_suffixes : List Suffix → List Item
items_of_suffixes suffixes = flat_map suffix_items suffixes

abbrev pub OwnersRise : List Suffix → Type 0
OwnersRise suffixes = AllPairs (λ (r s : Suffix). r.owner < s.owner) suffixes

-- one suffix for an owner, with its entries in order
pub record AreSuffixes (suffixes : List Suffix) : Type 0 where
  pub apart : AllPairs (λ (r s : Suffix). r.owner ≢ s.owner) suffixes
  pub rising : All (λ (r : Suffix). AllPairs StandsBefore r.entries.now) suffixes

-- the suffixes of the owners from the rotation on now stand before the others
pub record IsTurned (rotation : ℕ) (old new : List Suffix) : Type 0 where
  pub start : ℕ
  pub before : All (λ (r : Suffix). r.owner < rotation) (take start old)
  pub from : All (λ (r : Suffix). rotation ≤ r.owner) (drop start old)
  pub turned : new ≡ drop start old ++ take start old

-- how many entries have a smaller version
abbrev pub rank_in : List Entry → ℕ → ℕ
rank_in entries version = count_by (λ e. nat_lt e.version version) entries

-- the entries of a rank: one, or several of the same version
abbrev pub entries_ranked : ℕ → List Entry → List Entry
entries_ranked rank entries = filter (λ e. rank_in entries e.version == rank) entries

-- what a suffix sends in a layer, where layers are ranks, and where they are lengths
abbrev pub ranked : ℕ → Suffix → List Item
ranked rank r = map (item_with r.owner) (entries_ranked rank r.entries.now)

abbrev pub of_length : ℕ → Suffix → List Item
of_length len r = if length r.entries.now == len then suffix_items r else []

-- what each suffix sends comes behind, as long as it fits
abbrev pub AddsLayer : (Suffix → List Item) → List Suffix → Parcel → Parcel → Type 0
AddsLayer part suffixes old new = AddsFitting (flat_map part suffixes) old new

-- a number of 32 bits as one that is smaller the greater it is
abbrev pub reversed : ℕ → ℕ
reversed n = 4294967295 - n

-- a number that is smaller the more items the owner has
abbrev pub lengths_first : List Item → Item → ℕ
lengths_first items i = reversed (owner_count items i)

-- the items of a layer, which a number tells
abbrev pub layer_of : (Item → ℕ) → List Item → ℕ → List Item
layer_of number items n = filter (λ i. number i == n) items

-- so many layers from the least on
abbrev pub layered : (Item → ℕ) → List Item → ℕ → ℕ → List Item
layered number items least zero = []
layered number items least (suc n) = layered number items least n ++ layer_of number items (least + n)

-- what a budget lets through of all items, layer by layer
pub record AreLayered (number : Item → ℕ) (budget : Budget) (all sent : List Item) : Type 0 where
  pub least : ℕ
  pub layers : ℕ
  pub within : All (λ i. (least ≤ number i) × (number i < least + layers)) all
  pub is : sent ≡ first_within budget (layered number all least layers)
