-- The items of one place in a list. Source: this project.
use Rattle.std.specs.Prelude.{ℕ, Bool, ◌==◌, ◌&&◌, List, filter}
use Rattle.bench_types.specs.declared.entries.Item.{Item}

-- the item stands at this place
abbrev pub stands_at : ℕ → ℕ → Item → Bool
stands_at owner key i = (i.owner == owner) && (i.entry.key == key)

-- the items that stand at this place, in the list's order
abbrev pub items_at : ℕ → ℕ → List Item → List Item
items_at owner key added = filter (stands_at owner key) added
