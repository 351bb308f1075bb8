use Rattle.board.proofs.Common.{arith, refl}
use Rattle.board.specs.Boards.{plan_of}
use Rattle.board.proofs.Steps.{stop_allowed}
use Rattle.board.proofs.Calls.{with_step, seat_rests, word_zero, rests_again}
use Rattle.board.proofs.boards.Board.stop.Goals as goal

pub fetch_or-requires-whole : goal.fetch_or-requires-whole
fetch_or-requires-whole g c κs w = with_step w (
  c.requires.seat.id,
  word_zero c.args.self.now,
  stop_allowed g.T.MemoryTable.table (plan_of g.T.MemoryTable.table c.args.self.now) _ _ c.args.seat.now.raw.me c.args.seat.now.raw.me.0.seat
      c.requires.seat.rests.parts (seat_rests g.T.MemoryTable.table c.args.self.now c.args.seat.now c.requires.seat),
)

pub returns-clause-seat : goal.returns-clause-seat
returns-clause-seat g c = rests_again g.T.MemoryTable.table c.args.self.now c.args.seat.now _ _ c.requires.seat c.fetch_or.ensures.0 c.fetch_or.ensures.2.0
    refl (λ i. omega arith)
