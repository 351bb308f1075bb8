use Rattle.std.specs.Prelude.{vec_capacity}
use Rattle.std.proofs.Common.{◌≡◌, ◌-◌, ◌≤◌, map}
use Rattle.round_histories.specs.EmptyTables.{empty_tables_in}
use Rattle.round_histories.proofs.openings.empty_tables.Given as goal

abbrev pub invariant-loop-node : goal.invariant-loop-node
invariant-loop-node g l = record {
  from : l.start ≤ l.node;
  tables : map g.T.MemoryTable.table l.tables.items ≡ empty_tables_in (g.K.RoundHistories.kept l.histories) l.start l.node;
  room : vec_capacity l.tables ≡ l.end - l.start;
}
