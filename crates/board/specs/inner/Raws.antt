-- What the calls within a board ask and tell of a seat as it lies in memory, with tables on their way. Source: this
-- project.
use Rattle.std.specs.Prelude.{◌≡◌, ℕ, ◌<◌, [], length, Option, None, IfSome}
use Rattle.model.specs.Table.{Table}
use Rattle.atomic_table.specs.declared.shared.Seat.{Seat}
use Rattle.board.specs.Boards.{board_id, exchanges_of, plan_of, IsHoldOf, MayPutBack}
use Rattle.board.specs.SeatView.{with_held}
use Rattle.board.specs.Seats.{resting}
use Rattle.board.specs.inner.Plays.{HasFinished, HasOut, IsReleased, OwesNext}
use Rattle.board.specs.declared.boards.Board.{Board}
use Rattle.board.specs.declared.boards.Hold.{Hold}
use Rattle.board.specs.declared.views.View.{View}

-- the tables of a claimed exchange are out with the seat
pub record HasClaimed {T : Type 0} (table : T → Table) (board : Board T) (i : ℕ) (raw : Seat (Option T) View) : Type 0 where
  pub within : i < length (exchanges_of board)
  pub id : raw.table_id ≡ board_id board
  pub out : HasOut table (plan_of table board) i raw.me

-- they are a hold now, and the seat rests
pub record HasTakenOut {T : Type 0} (table : T → Table) (board : Board T) (i : ℕ) (old : Seat (Option T) View) (hold : Hold T) (new : Seat (Option T) View) : Type 0 where
  pub id : new.table_id ≡ old.table_id
  pub seat : new.me ≡ (resting (plan_of table board) (with_held old.me.0.seat i), [])
  pub is_hold : IsHoldOf table (plan_of table board) i hold

-- a seat that rests may put a hold in
pub record MayPutIn {T : Type 0} (table : T → Table) (board : Board T) (raw : Seat (Option T) View) (hold : Hold T) : Type 0 where
  pub within : hold.index < length (exchanges_of board)
  pub id : raw.table_id ≡ board_id board
  pub rests : raw.me ≡ (resting (plan_of table board) raw.me.0.seat, [])
  pub parts : 0 < raw.me.0.seat.parts
  pub may : MayPutBack table (plan_of table board) raw.me.0.seat hold

-- its exchange is finished, and its releases are owed
pub record HasPutIn {T : Type 0} (table : T → Table) (board : Board T) (old : Seat (Option T) View) (i : ℕ) (new : Seat (Option T) View) : Type 0 where
  pub id : new.table_id ≡ old.table_id
  pub seat : HasFinished (plan_of table board) old.me.0.seat i new.me

-- the seat owes the release of an exchange, if there is one
pub record OwesRelease {T : Type 0} (table : T → Table) (board : Board T) (raw : Seat (Option T) View) (next : Option ℕ) : Type 0 where
  pub id : raw.table_id ≡ board_id board
  pub owes : OwesNext (plan_of table board) raw.me next

-- and has made it, if there was one
pub record HasReleased {T : Type 0} (table : T → Table) (board : Board T) (old : Seat (Option T) View) (next named : Option ℕ) (new : Seat (Option T) View) : Type 0 where
  pub id : new.table_id ≡ old.table_id
  pub none : next ≡ None → (named ≡ None) × (new.me ≡ old.me)
  pub released : IfSome next (λ j. IsReleased (plan_of table board) old.me j named new.me)
