-- What one exchange comes to, and what a worker comes back with. Source: this project.
use Rattle.std.specs.Prelude.{◌≡◌, ℕ, ◌<◌, ◌⊎◌, true, false, List, [], length, map, All, IfOk, IfErr}
use Rattle.bench_types.specs.declared.faults.Fault.TheVariants.{OutOfMemory}
use Rattle.model.specs.Table.{Table}
use Rattle.board.specs.SeatView.{SeatView}
use Rattle.board.specs.Plan.{BoardPlan, exchanged_at}
use Rattle.board.specs.Weights.{Has}
use Rattle.board.specs.Boards.{plan_of, seat_view, IsSeatOf, IsHoldOf, IsPutBack}
use Rattle.board.specs.declared.boards.Board.{Board}
use Rattle.board.specs.declared.boards.Freed.{Freed}
use Rattle.board.specs.declared.boards.Hold.{Hold}
use Rattle.board.specs.declared.boards.Seat.{Seat}
use Rattle.workers.specs.declared.gathering.Stamped.{Stamped}
use Rattle.workers.specs.declared.workers.Returned.{Returned}

-- the record that an exchange of the list has in list order
pub record IsRecordOf (plan : BoardPlan) (stamped : Stamped) : Type 0 where
  pub within : stamped.index < length plan.list.exchanges
  pub sent : stamped.outcome ≡ (exchanged_at plan stamped.index).sent

-- an exchange was put back, and this is its record
pub record HasDone (plan : BoardPlan) (old : SeatView) (i : ℕ) (stamped : Stamped) (freed : Freed) (new : SeatView) : Type 0 where
  pub index : stamped.index ≡ i
  pub stamp : IsRecordOf plan stamped
  pub put_back : IsPutBack plan old i freed new

-- a seat of a board has done so
abbrev pub HasCarriedOut : {T : Type 0} → (T → Table) → Board T → Seat T → ℕ → Stamped → Freed → Seat T → Type 0
HasCarriedOut table board old i stamped freed new =
    HasDone (plan_of table board) (seat_view old) i stamped freed (seat_view new)

-- a hold of a seat's, with the tables that its exchange finds in list order
pub record IsHeldOf {T : Type 0} (table : T → Table) (board : Board T) (seat : Seat T) (hold : Hold T) : Type 0 where
  pub of_board : IsSeatOf table seat board
  pub held : Has (seat_view seat).held hold.index
  pub is_hold : IsHoldOf table (plan_of table board) hold.index hold

-- a seat of the board that has put nothing back and hasn't called for a stop
pub record IsFreshSeat {T : Type 0} (table : T → Table) (board : Board T) (seat : Seat T) : Type 0 where
  pub of_board : IsSeatOf table seat board
  pub made : (seat_view seat).made ≡ []
  pub unhalted : (seat_view seat).is_halted ≡ false

-- the records of its exchanges, in the order in which the seat put them back
pub record AreRecordsOf (plan : BoardPlan) (v : SeatView) (stamps : List Stamped) : Type 0 where
  pub made : map (λ s. s.index) stamps ≡ v.made
  pub each : All (IsRecordOf plan) stamps

abbrev pub HasRecords : {T : Type 0} → (T → Table) → Board T → Seat T → List Stamped → Type 0
HasRecords table board seat stamps = AreRecordsOf (plan_of table board) (seat_view seat) stamps

-- the seat has seen that all is finished, or that a stop was called
abbrev pub SeesTheEnd : BoardPlan → SeatView → Type 0
SeesTheEnd plan v = (v.seen ≡ length plan.list.exchanges) ⊎ (v.is_stopped ≡ true)

-- and hasn't called for a stop
pub record HasNoMoreToDo (plan : BoardPlan) (v : SeatView) : Type 0 where
  pub unhalted : v.is_halted ≡ false
  pub ends : SeesTheEnd plan v

-- a worker that was given a seat with so many parts
pub record IsReturned {T : Type 0} (table : T → Table) (board : Board T) (parts : ℕ) (returned : Returned T) : Type 0 where
  pub of_board : IsSeatOf table returned.seat board
  pub same_parts : (seat_view returned.seat).parts ≡ parts
  pub records : IfOk returned.outcome (λ stamps. AreRecordsOf (plan_of table board) (seat_view returned.seat) stamps.items × HasNoMoreToDo (plan_of table board) (seat_view returned.seat))
  pub fault : IfErr returned.outcome (λ f. f ≡ OutOfMemory)
  pub halted : IfErr returned.outcome (λ _. (seat_view returned.seat).is_halted ≡ true)
