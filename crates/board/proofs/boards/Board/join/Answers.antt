use Rattle.board.proofs.Common.{arith, ap, ◌∙◌, inl, inr, cases_lt}
use Rattle.board.specs.Weights.{times, only}
use Rattle.board.specs.SeatView.{joined}
use Rattle.board.specs.Boards.{plan_of, seat_view}
use Rattle.board.specs.Models.{seat_model}
use Rattle.board.proofs.Sums.{total-append}
use Rattle.board.proofs.Modelled.{rests_of}
use Rattle.board.proofs.Steps.{join_allowed, show_allowed}
use Rattle.board.proofs.Calls.{with_step, resting_seat, word_zero, joined_me, seat_again}
use Rattle.board.proofs.boards.Board.join.Goals as goal

pub join_seat-requires-whole : goal.join_seat-requires-whole
join_seat-requires-whole g c κs w =
    let table = g.T.MemoryTable.table in
    let board = c.args.self.now in
    let one = c.args.seat.now in
    let other = c.args.other in
    let a = c.requires.seats.0 in
    let b = c.requires.seats.1 in with_step w (
      a.id,
      b.id,
      b.rests.slots,
      word_zero board,
      join_allowed table (plan_of table board) _ one.raw.me.0 (seat_view one) _ other.raw.me.0 (seat_view other) a.rests.parts (resting_seat table board one a)
          (resting_seat table board other b),
    )

pub load-requires-whole : goal.load-requires-whole
load-requires-whole g c κs w =
    let table = g.T.MemoryTable.table in
    let plan = plan_of table c.args.self.now in
    let one = c.args.seat.now in
    let other = c.args.other in
    let a = c.requires.seats.0 in
    let me = c.join_seat.new.seat.me in
    let is = c.join_seat.ensures.2 ∙ joined_me plan one.raw.me other.raw.me a.plan a.rests in with_step w (
      c.join_seat.ensures.0 ∙ a.id,
      word_zero c.args.self.now,
      show_allowed table plan _ _ me (joined (seat_view one) (seat_view other)) (omega (arith, a.rests.parts)) is,
    )

pub returns-clause-seat : goal.returns-clause-seat
returns-clause-seat g c =
    let table = g.T.MemoryTable.table in
    let plan = plan_of table c.args.self.now in
    let one = c.args.seat.now in
    let other = c.args.other in
    let a = c.requires.seats.0 in
    let b = c.requires.seats.1 in
    let v = seat_view one in
    let w = seat_view other in
    let is = c.join_seat.ensures.2 ∙ joined_me plan one.raw.me other.raw.me a.plan a.rests in
    seat_again table c.args.self.now one _ (joined v w) a (c.load.ensures.0 ∙ c.join_seat.ensures.0) (rests_of table c.load.new.seat.me _ (c.load.ensures.2.0
    ∙ ap (seat_model table) is)) (omega (arith, a.rests.parts))
    (λ i holds. elim (cases_lt 0 (times i v.held)) [
      | inl mine ↦ a.within i mine
      | inr theirs ↦ b.within i (omega (arith, theirs, holds, total-append (only i) v.held w.held))
    ])
