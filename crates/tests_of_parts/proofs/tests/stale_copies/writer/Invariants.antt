use Rattle.std.proofs.Common.{◌≡◌}
use Rattle.model.specs.calls.OwnerListView.{written}
use Rattle.model.specs.calls.Writes.{AreBornBy}
use Rattle.tests_of_parts.proofs.tests.stale_copies.writer.Given as goal

abbrev pub invariant-loop : goal.invariant-loop
invariant-loop g l = record {
  node : l.table.table.node ≡ l.node;
  nodes : l.table.table.nodes ≡ 2;
  keys : l.table.table.keys ≡ l.keys;
  born : AreBornBy l.round (written l.list);
}

abbrev pub invariant-loop-key : goal.invariant-loop-key
invariant-loop-key g l = record {
  node : l.table.table.node ≡ l.node;
  nodes : l.table.table.nodes ≡ 2;
  keys : l.table.table.keys ≡ l.keys;
  born : AreBornBy l.round (written l.list);
}
