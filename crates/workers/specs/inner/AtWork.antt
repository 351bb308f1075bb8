-- What a worker does, exchange by exchange. Source: this project.
use Rattle.std.specs.Prelude.{◌≡◌, ℕ, List, ◌++◌}
use Rattle.model.specs.Table.{Table}
use Rattle.board.specs.SeatView.{SeatView}
use Rattle.board.specs.Boards.{plan_of, seat_view, IsSeatOf}
use Rattle.board.specs.declared.boards.Board.{Board}
use Rattle.work.specs.Pushes.{pushed}
use Rattle.workers.specs.inner.Returns.{HasRecords, SeesTheEnd}
use Rattle.workers.specs.declared.workers.Worker.{Worker}

-- its seat is one of the board, and it has the records of what that has put back
pub record IsWorker {T : Type 0} (table : T → Table) (board : Board T) (worker : Worker T) : Type 0 where
  pub of_board : IsSeatOf table worker.seat board
  pub records : HasRecords table board worker.seat worker.stamps.items

-- its seat keeps its parts, and whether it has called for a stop
pub record StaysAtWork {T : Type 0} (table : T → Table) (board : Board T) (old new : Worker T) : Type 0 where
  pub of_board : IsSeatOf table new.seat board
  pub parts : (seat_view new.seat).parts ≡ (seat_view old.seat).parts
  pub is_halted : (seat_view new.seat).is_halted ≡ (seat_view old.seat).is_halted

-- what a seat's exchanges have made ready meanwhile was pushed
pub record PushesFreed (old : SeatView) (pushes : List ℕ) (new : SeatView) (pushes' : List ℕ) : Type 0 where
  pub ready : List ℕ
  pub freed : new.freed ≡ old.freed ++ ready
  pub pushed : pushes' ≡ pushes ++ ready

-- it has the records of all that it has put back, and has pushed what that made ready meanwhile
pub record HasWorked {T : Type 0} (table : T → Table) (board : Board T) (old new : Worker T) : Type 0 where
  pub records : HasRecords table board new.seat new.stamps.items
  pub pushes : PushesFreed (seat_view old.seat) (pushed old.tasks) (seat_view new.seat) (pushed new.tasks)

-- and has seen that all is finished, or that a stop was called
pub record HasWorkedToTheEnd {T : Type 0} (table : T → Table) (board : Board T) (old new : Worker T) : Type 0 where
  pub worked : HasWorked table board old new
  pub ends : SeesTheEnd (plan_of table board) (seat_view new.seat)
