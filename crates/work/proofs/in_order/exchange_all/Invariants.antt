use Rattle.work.proofs.Common.{◌≡◌, ◌≤◌, length, map, vec_capacity, vec_len}
use Rattle.work.proofs.Turns.{IsTurned}
use Rattle.work.proofs.in_order.exchange_all.Given as goal

abbrev pub invariant-loop-i : goal.invariant-loop-i
invariant-loop-i g l = record {
  turned : IsTurned l.work.rules.now l.work.list.now.exchanges (map g.T.MemoryTable.table l.initial.tables) (map g.T.MemoryTable.table l.tables)
      l.records.items l.i;
  count : vec_len l.records ≡ l.i;
  room : length l.work.list.now.exchanges ≤ vec_capacity l.records;
}
