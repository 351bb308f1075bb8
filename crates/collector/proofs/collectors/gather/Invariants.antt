use Rattle.std.proofs.Common.{◌≡◌, ◌≤◌, length, map, take}
use Rattle.std.specs.Prelude.{Some, vec_len, vec_capacity}
use Rattle.collector.proofs.collectors.gather.Given as goal

abbrev pub invariant-loop-at : goal.invariant-loop-at
invariant-loop-at l = record {
  within : l.at ≤ length l.outcomes;
  counted : vec_len l.room ≡ l.at;
  moved : map Some l.room.items ≡ take l.at l.outcomes;
  room : vec_capacity l.fn.room ≤ vec_capacity l.room;
}
