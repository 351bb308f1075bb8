-- Flags in a list of greatest versions, by which each owner of whom nothing is held is counted once. Source: this
-- project.
use Rattle.std.specs.Prelude.{◌≡◌, ℕ, ◌<◌, ◌≤◌, ◌⊎◌, List, length, slice_index, slice_index_or}
use Rattle.bench_types.specs.declared.entries.Item.{Item}
use Rattle.node_table.specs.declared.layouts.Row.{Row}

-- an item of the owner stands in a list from one index on and below another
abbrev pub ComesWithin : List Item → ℕ → ℕ → ℕ → Type 0
ComesWithin added from to owner =
    (k : ℕ) × (from ≤ k) × (k < to) × ((d : Item) → (slice_index_or added k d).owner ≡ owner)

-- greatest versions above 0 stay, and another stays as well or its owner comes in the list
pub record AreFlagged (added : List Item) (before after : List ℕ) : Type 0 where
  pub held : (owner : ℕ) → 0 < slice_index before owner → slice_index after owner ≡ slice_index before owner
  pub new : (owner : ℕ) → slice_index before owner ≡ 0
      → (slice_index after owner ≡ 0) ⊎ ComesWithin added 0 (length added) owner

-- those of owners with entries stay, and the other owners that come in the list have 0
pub record AreUnflagged (rows : List Row) (added : List Item) (before after : List ℕ) : Type 0 where
  pub held : (owner : ℕ) (d : Row) → 0 < (slice_index_or rows owner d).len → slice_index after owner ≡ slice_index before owner
  pub new : (owner : ℕ) (d : Row) → owner < length before → (slice_index_or rows owner d).len ≡ 0
      → (slice_index before owner ≡ 0) ⊎ ComesWithin added 0 (length added) owner → slice_index after owner ≡ 0
