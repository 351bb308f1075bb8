-- The records of what a seat has put back, each at the place of its exchange. Source: this project.
use Rattle.std.specs.Prelude.{◌≡◌, ℕ, List, length, Some, slice_get}
use Rattle.bench_types.specs.declared.exchanges.Record.{Record}
use Rattle.model.specs.Table.{Table}
use Rattle.board.specs.Weights.{Has}
use Rattle.board.specs.Plan.{BoardPlan, exchanged_at}
use Rattle.board.specs.Boards.{plan_of, seat_view, IsSeatOf}
use Rattle.board.specs.declared.boards.Board.{Board}
use Rattle.workers.specs.declared.gathering.Gathered.{Gathered}

-- a place for each exchange of the list, where each of these has its record of list order
pub record HoldsRecords (plan : BoardPlan) (made : List ℕ) (records : List Record) : Type 0 where
  pub size : length records ≡ length plan.list.exchanges
  pub each : (i : ℕ) → Has made i → slice_get records i ≡ Some (exchanged_at plan i).sent

-- a seat of the board, with the records of what it has put back
pub record HasGathered {T : Type 0} (table : T → Table) (board : Board T) (gathered : Gathered T) : Type 0 where
  pub of_board : IsSeatOf table gathered.seat board
  pub records : HoldsRecords (plan_of table board) (seat_view gathered.seat).made gathered.records.items
