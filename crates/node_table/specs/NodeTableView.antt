-- What contracts see of a node's table in memory: the table, and for how many more owners it has room.
-- Room is no part of the table: two tables are equal where node, nodes, keys, generation and entries are. Source: this
-- project.
use Rattle.std.specs.Prelude.{ℕ, zero, suc, ◌+◌, ◌≤◌, ◌==◌, ◌&&◌, Bool, List, All, if◌then◌else◌, map}
use Rattle.std.specs.List.{list_any}
use Rattle.bench_types.specs.declared.entries.Item.{Item}
use Rattle.model.specs.Table.{Table, greatest_version}
use Rattle.model.specs.calls.Table.{MayReceive}

pub record NodeTableView : Type 0 where
  pub table : Table
  pub room : ℕ

-- whether an item of the owner comes in a list
abbrev pub comes_in : List Item → ℕ → Bool
comes_in added owner = list_any (λ i. i.owner == owner) added

-- whether an owner needs a block, 1 or 0: it comes in a list, and by its greatest version nothing is held of it
abbrev pub needs_block : (ℕ → ℕ) → List Item → ℕ → ℕ
needs_block greatest added owner = if (greatest owner == 0) && comes_in added owner then 1 else 0

-- how many of the owners below a bound do
abbrev pub blocks_below : (ℕ → ℕ) → List Item → ℕ → ℕ
blocks_below greatest added zero = 0
blocks_below greatest added (suc owner) = blocks_below greatest added owner + needs_block greatest added owner

-- how many owners come in a list of whom nothing is held
abbrev pub blocks_for : Table → List Item → ℕ
blocks_for t added = blocks_below (greatest_version t) added t.nodes

-- there is room for a list of items
abbrev pub HasRoom : NodeTableView → List Item → Type 0
HasRoom kept added = blocks_for kept.table added ≤ kept.room

-- the items that a table may take without memory
pub record MayApply (kept : NodeTableView) (added : List Item) : Type 0 where
  pub room : HasRoom kept added
  pub received : All (MayReceive kept.table) added

-- the model's table of a table that has its entries itself
abbrev pub kept_table : NodeTableView → Table
kept_table kept = kept.table

-- the tables in memory, without their room
abbrev pub tables_in : List NodeTableView → List Table
tables_in kept = map (λ k. k.table) kept
