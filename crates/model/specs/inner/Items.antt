-- Lists of items, each at its place. Source: this project.
use Rattle.std.specs.Prelude.{ℕ, ◌<◌, ◌≤◌, List, All, map}
use lib.Dec.{T}
use Rattle.std.specs.FinMap.{is_sorted}
use Rattle.bench_types.specs.declared.entries.Entry.{Entry}
use Rattle.bench_types.specs.declared.entries.Item.{Item}
use Rattle.limits.specs.declared.TheConstants.{LEAST_KEYS, MOST_NODES, MOST_KEYS}
use Rattle.model.specs.Table.{Place, place_cmp}
use Rattle.model.specs.calls.Table.{IsItemInPlace}

abbrev pub no_item : Item
no_item = record { owner = 0; entry = record { key = 0; generation = 0; version = 0; value = 0; born = 0 } }

abbrev pub place_of : Item → Place
place_of i = (i.owner, i.entry.key)

abbrev pub pair_of : Item → Place × Entry
pair_of i = (place_of i, i.entry)

abbrev pub pairs : List Item → List (Place × Entry)
pairs xs = map pair_of xs

-- the places rise
abbrev pub IsRising : List Item → Type 0
IsRising xs = T (is_sorted place_cmp (pairs xs))

pub record IsSound (node nodes keys : ℕ) (items : List Item) : Type 0 where
  pub node_below : node < nodes
  pub nodes_limit : nodes ≤ MOST_NODES
  pub some_key : LEAST_KEYS ≤ keys
  pub keys_limit : keys ≤ MOST_KEYS
  pub rising : IsRising items
  pub in_place : All (IsItemInPlace nodes keys) items
