-- The tables of all nodes, in order: that of node n at place n, from 0, all with as many nodes and keys.
-- Source: this project.
use Rattle.std.specs.Prelude.{◌≡◌, ℕ, ◌<◌, List, length, slice_index_or}
use Rattle.model.specs.Table.{Table, empty_table, IsProper}

-- the table of a node, an empty one past the end of the list
abbrev pub table_of_node : List Table → ℕ → Table
table_of_node ts n = slice_index_or ts n (empty_table 0 0 0)

-- the table of one of so many nodes with so many keys each
pub record IsTableOf (node_count key_count n : ℕ) (t : Table) : Type 0 where
  pub node : t.node ≡ n
  pub nodes : t.nodes ≡ node_count
  pub keys : t.keys ≡ key_count

-- one for each of so many nodes
pub record AreTablesInOrder (nodes keys : ℕ) (ts : List Table) : Type 0 where
  pub size : length ts ≡ nodes
  pub tables : (n : ℕ) → n < nodes → IsTableOf nodes keys n (table_of_node ts n)

-- a fact of each of the tables
abbrev pub HoldsOfEach : (Table → Type 0) → List Table → Type 0
HoldsOfEach P ts = (n : ℕ) → n < length ts → P (table_of_node ts n)

-- each is what every node's table is
abbrev pub AreProper : List Table → Type 0
AreProper = HoldsOfEach IsProper
