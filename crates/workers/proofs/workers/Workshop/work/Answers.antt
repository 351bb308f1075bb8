use Rattle.workers.proofs.Common.{List, arith, sym, ap, subst, ◌∙◌, SeatView, plan_of, seat_view}
use Rattle.workers.specs.declared.gathering.Stamped.{Stamped}
use Rattle.workers.specs.inner.Returns.{AreRecordsOf}
use Rattle.workers.proofs.workers.Workshop.work.Goals as goal

pub returns-in-Ok : goal.returns-in-Ok
returns-in-Ok g c =
    let stays = c.carry_out_all.ensures.stays in
    let worked = c.in-Ok.ensures.worked in
    record {
      of_board = stays.of_board;
      same_parts = stays.parts;
      records = (worked.worked.records, record { unhalted = stays.is_halted ∙ c.requires.seat.unhalted; ends = worked.ends });
      fault = tt;
      halted = tt;
    }

pub returns-in-Err : goal.returns-in-Err
returns-in-Err g c =
    let stop = c.stop.ensures in
    let parts = ap (λ (v : SeatView). v.parts) stop.stopped.seat ∙ c.carry_out_all.ensures.stays.parts in
    let halted = ap (λ (v : SeatView). v.is_halted) stop.stopped.seat in
    record { of_board = stop.seat; same_parts = parts; records = tt; fault = c.in-Err.ensures.worked; halted = halted }

pub carry_out_all-requires-clause-worker : goal.carry_out_all-requires-clause-worker
carry_out_all-requires-clause-worker g c _ _ =
    let seat = c.requires.seat in
    record {
      of_board = seat.of_board;
      records = subst (λ (items : List Stamped). AreRecordsOf (plan_of g.T.MemoryTable.table c.args.self.now.board) (seat_view c.args.seat) items)
          (sym c.new.ensures.items) (record { made = sym seat.made; each = λ _ _ none. absurd (omega (arith, none)) });
    }
