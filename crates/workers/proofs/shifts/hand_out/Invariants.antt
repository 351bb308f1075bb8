use Rattle.workers.proofs.Common.{◌≡◌, ◌+◌, ◌≤◌, vec_len, vec_capacity, into_iter_len, arc_value, ALL_PARTS, seat_view}
use Rattle.workers.specs.inner.Returns.{IsFreshSeat}
use Rattle.workers.proofs.shifts.hand_out.Given as goal

abbrev pub invariant-loop-own : goal.invariant-loop-own
invariant-loop-own g l =
    record {
      seat : IsFreshSeat g.T.MemoryTable.table (arc_value l.shift).shop.board l.gathered.seat;
      records : l.gathered.records ≡ l.fn.gathered.records;
      parts : (seat_view l.gathered.seat).parts + vec_len l.handed ≡ ALL_PARTS;
      count : vec_len l.handed + into_iter_len l.own-iterator ≡ into_iter_len l.initial.own-iterator;
      room : into_iter_len l.initial.own-iterator ≤ vec_capacity l.handed;
    }
