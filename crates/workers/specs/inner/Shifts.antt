-- What each worker of a list is given. Source: this project.
use Rattle.std.specs.Prelude.{◌≡◌, ℕ, ◌<◌}
use Rattle.model.specs.Table.{Table}
use Rattle.board.specs.Boards.{seat_view}
use Rattle.board.specs.declared.boards.Seat.{Seat}
use Rattle.crew.specs.Named.{label_of, tray_count}
use Rattle.workers.specs.inner.Returns.{IsFreshSeat}
use Rattle.workers.specs.inner.Workshops.{IsWorkshop}
use Rattle.workers.specs.declared.tasks.Shift.{Shift}

-- the trays may hold what comes back of seats of the board
pub record IsShift {T X G : Type 0} (table : T → Table) (fits : X → Table → Type 0) (shift : Shift T X G) : Type 0 where
  pub shop : IsWorkshop table fits shift.shop
  pub labelled : (label_of shift.trays).0.value ≡ shift.shop.board

-- and a worker has a seat of one part, and a tray
pub record IsTask {T X G : Type 0} (table : T → Table) (fits : X → Table → Type 0) (shift : Shift T X G) (seat : Seat T) (place : ℕ) : Type 0 where
  pub of_shift : IsShift table fits shift
  pub fresh : IsFreshSeat table shift.shop.board seat
  pub one : (seat_view seat).parts ≡ 1
  pub within : place < tray_count shift.trays
