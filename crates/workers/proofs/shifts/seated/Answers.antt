use Rattle.workers.proofs.Common.{length, sym, ap, ◌∙◌, BoardPlan, SeatView, plan_of, seat_view}
use Rattle.workers.proofs.Ordered.{holds_none}
use Rattle.workers.proofs.shifts.seated.Goals as goal

pub returns : goal.returns
returns g c =
    let made = c.in_ok-board.ensures in
    record {
      made = made.plan;
      seat = record {
        has = record {
          of_board = made.seat.0;
          records = holds_none (plan_of g.T.MemoryTable.table c.in_ok-board.board) (seat_view c.in_ok-board.seat).made c.in_ok-records.records.items
              (ap (λ (v : SeatView). v.made) made.seat.1)
              (c.in_ok-records.ensures ∙ c.len.ensures.value ∙ sym (ap (λ (p : BoardPlan). length p.list.exchanges) made.plan));
        };
        first = made.seat.1;
      };
    }
