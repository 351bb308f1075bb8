-- The tables in memory of all nodes, in order: how they are read and written.
-- Serves `planner` and `staleness`.
use Rattle.node_table.proofs.Common.{◌≡◌, ℕ, ◌<◌, List, length, get_or, ap, sym, ◌∙◌, get_or_default, length-map, empty_table, table_of_node}
use Rattle.std.proofs.Math.ListN.{get_or-map}
use Rattle.node_table.specs.NodeTableView.{NodeTableView}
use Rattle.node_table.specs.NodeTableView.{tables_in}

abbrev pub no_table : NodeTableView
no_table = record { table = empty_table 0 0 0; room = 0 }

pub length-tables_in : (ks : List NodeTableView) → length (tables_in ks) ≡ length ks
length-tables_in ks = length-map ks (λ (k : NodeTableView). k.table)

pub table_of_node-tables_in : (ks : List NodeTableView) (n : ℕ) → table_of_node (tables_in ks) n ≡ (get_or ks n no_table).table
table_of_node-tables_in ks n = get_or-map (λ (k : NodeTableView). k.table) ks n no_table

-- a table as code reads it
pub table_read : (ks : List NodeTableView) (n : ℕ) (d : NodeTableView) → n < length ks → (get_or ks n d).table ≡ table_of_node (tables_in ks) n
table_read ks n d lt = ap (λ (k : NodeTableView). k.table) (get_or_default ks n d no_table lt) ∙ sym (table_of_node-tables_in ks n)

pub table_indexed : (ks : List NodeTableView) (n : ℕ) (k : NodeTableView) → n < length ks → k ≡ get_or ks n k → k.table ≡ table_of_node (tables_in ks) n
table_indexed ks n k lt is = ap (λ (x : NodeTableView). x.table) is ∙ table_read ks n k lt
