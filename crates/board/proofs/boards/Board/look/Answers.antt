use Rattle.board.proofs.Common.{arith, ◌/◌, ap, refl, subst}
use Rattle.board.specs.Boards.{plan_of}
use Rattle.board.specs.Plan.{BoardPlan}
use Rattle.board.specs.Seats.{LookTells}
use Rattle.board.specs.inner.Plays.{is_odd}
use Rattle.board.proofs.Steps.{look_allowed}
use Rattle.board.proofs.Calls.{with_step, seat_rests, word_zero, rests_again}
use Rattle.board.proofs.boards.Board.look.Goals as goal

pub load-word-requires-whole : goal.load-word-requires-whole
load-word-requires-whole g c κs w = with_step w (
  c.requires.seat.id,
  word_zero c.args.self.now,
  look_allowed g.T.MemoryTable.table (plan_of g.T.MemoryTable.table c.args.self.now) _ _ c.args.seat.now.raw.me c.args.seat.now.raw.me.0.seat
      c.requires.seat.rests.parts (seat_rests g.T.MemoryTable.table c.args.self.now c.args.seat.now c.requires.seat),
)

pub returns-clause-seat : goal.returns-clause-seat
returns-clause-seat g c = rests_again g.T.MemoryTable.table c.args.self.now c.args.seat.now _ _ c.requires.seat c.load-word.ensures.0 c.load-word.ensures.2.0
    refl (λ i. omega arith)

pub returns-clause-progress : goal.returns-clause-progress
returns-clause-progress g c = (
  ap (λ m. m.0.seat) c.load-word.ensures.2.0,
  subst (λ (plan : BoardPlan). LookTells plan.list.exchanges c.args.seat.now.raw.me.0.seat (c.load-word.result / 2) (is_odd c.load-word.result))
      c.requires.seat.plan c.load-word.ensures.2.1,
)
