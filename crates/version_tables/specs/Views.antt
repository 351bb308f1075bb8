-- What contracts see of a table of versions: the numbers of the writes that it holds, in a plane for each key with a
-- cell for each owner, 0 for none. What stands under a number the owners' writes tell. Source: this project.
use Rattle.std.specs.Prelude.{◌≡◌, ◌≢◌, ℕ, zero, suc, ◌<◌, ◌≤◌, List, [], ◌∷◌, ◌⊎◌, length, map, slice_index, Option, Some, None}
use Rattle.std.specs.List.{range_with_len}
use Rattle.bench_types.specs.declared.entries.Entry.{Entry}
use Rattle.limits.specs.declared.TheConstants.{LEAST_KEYS, MOST_KEYS, MOST_NODES}
use Rattle.model.specs.Table.{Table, own_write, with_own_write, IsProper}
use Rattle.model.specs.calls.Held.{held_by_lists}
use Rattle.model.specs.calls.Numbers.{write_numbered}
use Rattle.planes.specs.declared.sizes.Grid.{Grid}
use Rattle.planes.specs.Grids.{IsGridOf}
use Rattle.planes.specs.Planes.{cell, Cells, HasEach, HasEachPlace}

-- a plane for each key, with a number for each owner, and the greatest number of each owner
pub record VersionTableView : Type 0 where
  pub node : ℕ
  pub nodes : ℕ
  pub keys : ℕ
  pub generation : ℕ
  pub cells : List ℕ
  pub greatest : List ℕ

-- one more entry, if it is held
abbrev pub with_entry : Option Entry → List Entry → List Entry
with_entry None es = es
with_entry (Some e) es = e ∷ es

-- the entries of an owner's keys below a bound
abbrev pub entries_below : List Entry → (ℕ → ℕ) → ℕ → List Entry
entries_below writes numbers zero = []
entries_below writes numbers (suc key) =
    with_entry (write_numbered writes (numbers key)) (entries_below writes numbers key)

-- the table that they are, where this is what the owners write
abbrev pub table_in : (ℕ → List Entry) → VersionTableView → Table
table_in written v = record {
  node = v.node;
  nodes = v.nodes;
  keys = v.keys;
  generation = v.generation;
  held = held_by_lists
      (map (λ owner. entries_below (written owner) (cell v.cells v.nodes owner) v.keys) (range_with_len 0 v.nodes));
}

-- a number's write stands under no lesser number
abbrev pub IsFirst : List Entry → ℕ → Type 0
IsFirst writes number = (m : ℕ) → m < number → write_numbered writes m ≢ write_numbered writes number

-- it is 0, or that of a write of a key
pub record IsNumberOf (writes : List Entry) (key number : ℕ) : Type 0 where
  pub written : number ≤ length writes
  pub keyed : (e : Entry) → write_numbered writes number ≡ Some e → e.key ≡ key
  pub first : IsFirst writes number

-- the greatest of an owner's numbers
pub record IsGreatest (cells : Cells) (keys owner greatest : ℕ) : Type 0 where
  pub upto : (key : ℕ) → key < keys → cells owner key ≤ greatest
  pub held : (greatest ≡ 0) ⊎ ((key : ℕ) × (key < keys) × (cells owner key ≡ greatest))

-- what a table of versions keeps
pub record IsKept (written : ℕ → List Entry) (v : VersionTableView) : Type 0 where
  pub proper : IsProper (table_in written v)
  pub numbers : HasEachPlace v.nodes v.keys (λ r k n. IsNumberOf (written r) k n) v.cells
  pub most : HasEach v.nodes (λ r n. IsGreatest (cell v.cells v.nodes) v.keys r n) v.greatest

-- so many nodes and keys may be
pub record AreSizes (nodes keys : ℕ) : Type 0 where
  pub few_nodes : nodes ≤ MOST_NODES
  pub some_key : LEAST_KEYS ≤ keys
  pub few_keys : keys ≤ MOST_KEYS

-- the numbers of a table, in memory
pub record IsGridIn {N : Type 0} (number : N → ℕ) (written : ℕ → List Entry) (v : VersionTableView)
    (grid : Grid N) : Type 0 where
  pub cells : map number grid.cells.now ≡ v.cells
  pub nodes : grid.size.nodes ≡ v.nodes
  pub keys : grid.size.keys ≡ v.keys
  pub shape : IsGridOf grid
  pub kept : IsKept written v

-- under a number above all that a table holds of its node stands what the node writes next of a key
pub record IsNextWrite (written : ℕ → List Entry) (v : VersionTableView) (key number : ℕ) : Type 0 where
  pub entry : Entry
  pub is : write_numbered (written v.node) number ≡ Some entry
  pub next : entry ≡ own_write (table_in written v) key entry.value entry.born
  pub above : slice_index v.greatest v.node < number
  pub first : IsFirst (written v.node) number

-- a table has its own write of a number
abbrev pub HasOwnWrite : (ℕ → List Entry) → VersionTableView → ℕ → VersionTableView → Type 0
HasOwnWrite written old number new =
    (e : Entry) → write_numbered (written old.node) number ≡ Some e
    → table_in written new ≡ with_own_write (table_in written old) e.key e.value e.born
