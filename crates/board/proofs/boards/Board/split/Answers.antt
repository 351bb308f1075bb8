use Rattle.board.specs.Boards.{plan_of, seat_view}
use Rattle.board.proofs.Steps.{split_allowed}
use Rattle.board.proofs.Calls.{with_step, resting_seat, word_zero}
use Rattle.board.proofs.boards.Board.split.Goals as goal

pub split_seat-requires-whole : goal.split_seat-requires-whole
split_seat-requires-whole g c κs w = with_step w (
  c.requires.seat.id,
  word_zero c.args.self.now,
  split_allowed g.T.MemoryTable.table (plan_of g.T.MemoryTable.table c.args.self.now) _ c.args.seat.now.raw.me.0 (seat_view c.args.seat.now) c.requires.parts
      (resting_seat g.T.MemoryTable.table c.args.self.now c.args.seat.now c.requires.seat),
)
