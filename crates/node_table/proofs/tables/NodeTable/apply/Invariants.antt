use Rattle.node_table.proofs.Common.{◌≡◌, ◌+◌, ◌*◌, ◌≤◌, drop, vec_len, vec_capacity, applied}
use Rattle.node_table.specs.NodeTableView.{blocks_for}
use Rattle.node_table.specs.inner.Layouts.{table_laid, IsLayout}
use Rattle.node_table.proofs.tables.NodeTable.apply.Given as goal

abbrev pub invariant-loop-item : goal.invariant-loop-item
invariant-loop-item l = record {
  layout : IsLayout l.self-inside.layout;
  table : applied (table_laid l.self-inside.layout) (drop l.item-index l.added) ≡ applied l.fn.self.table l.added;
  node : l.self-inside.layout.node ≡ l.fn.self.table.node;
  nodes : l.self-inside.layout.nodes ≡ l.fn.self.table.nodes;
  keys : l.self-inside.layout.keys ≡ l.fn.self.table.keys;
  room : vec_len l.self-inside.layout.slots + blocks_for (table_laid l.self-inside.layout) (drop l.item-index l.added) * l.self-inside.layout.keys ≤ vec_capacity l.self-inside.layout.slots;
}
