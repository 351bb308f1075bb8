-- What several workers share out among them. Source: this project.
use Rattle.std.specs.Prelude.{◌≡◌, ℕ, ◌+◌, ◌<◌, ◌≤◌, false, List}
use Rattle.model.specs.Table.{Table}
use Rattle.board.specs.SeatView.{ALL_PARTS}
use Rattle.board.specs.Boards.{seat_view, IsMadeOf}
use Rattle.crew.specs.Named.{tray_count}
use Rattle.workers.specs.inner.Gathering.{HasGathered}
use Rattle.workers.specs.inner.Shifts.{IsShift}
use Rattle.workers.specs.inner.Starts.{HasFirstSeat}
use Rattle.workers.specs.inner.Works.{AreSeveral}
use Rattle.workers.specs.declared.gathering.Gathered.{Gathered}
use Rattle.workers.specs.declared.tasks.Shift.{Shift}
use Rattle.work.specs.declared.works.Batch.{Batch}

-- there is a tray for each of several workers, and the first seat of the board that they share
pub record MayHandOut {T X G : Type 0} (table : T → Table) (fits : X → Table → Type 0) (shift : Shift T X G)
    (gathered : Gathered T) (workers : ℕ) : Type 0 where
  pub of_shift : IsShift table fits shift
  pub seat : HasFirstSeat table shift.shop.board gathered
  pub several : AreSeveral workers
  pub trays : workers ≤ tray_count shift.trays

-- so many workers, with a tray each, were given a part of the seat
pub record HasHandedOut {T X G : Type 0} (table : T → Table) (fits : X → Table → Type 0) (shift : Shift T X G)
    (workers : ℕ) (gathered : Gathered T) : Type 0 where
  pub of_shift : IsShift table fits shift
  pub has : HasGathered table shift.shop.board gathered
  pub parts : (seat_view gathered.seat).parts + workers ≡ ALL_PARTS
  pub unhalted : (seat_view gathered.seat).is_halted ≡ false
  pub some : 0 < workers
  pub trays : workers ≤ tray_count shift.trays

-- several share a board of the batch and these tables, of whose seat each has a part, with a tray
pub record HasOpened {T X G : Type 0} (table : T → Table) (fits : X → Table → Type 0) (batch : Batch X G)
    (workers : ℕ) (tables : List T) (shift : Shift T X G) (gathered : Gathered T) : Type 0 where
  pub handed : HasHandedOut table fits shift workers gathered
  pub shared : shift.shop.shared ≡ batch.shared
  pub made : IsMadeOf table batch.rules.now batch.list.now tables shift.shop.board
