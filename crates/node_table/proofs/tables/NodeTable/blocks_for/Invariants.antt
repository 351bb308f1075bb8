use Rattle.node_table.proofs.Common.{◌≡◌, ◌≤◌, greatest_version}
use Rattle.node_table.specs.NodeTableView.{blocks_below}
use Rattle.node_table.proofs.tables.NodeTable.blocks_for.Given as goal

abbrev pub invariant-loop-owner : goal.invariant-loop-owner
invariant-loop-owner l = record {
  counted : l.blocks ≡ blocks_below (greatest_version l.self.table) l.added l.owner;
  fits : l.blocks ≤ l.owner;
}
