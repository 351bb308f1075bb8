-- What several workers begin a list with. Source: this project.
use Rattle.std.specs.Prelude.{◌≡◌, ℕ, List, length, map, Vec, vec_len}
use Rattle.std.specs.declared.alloc.Global.{Global}
use Rattle.bench_types.specs.declared.exchanges.Rules.{Rules}
use Rattle.model.specs.Table.{Table}
use Rattle.model.specs.RoundLists.{RoundListView}
use Rattle.dependencies.specs.Neighbours.{first_ready_of}
use Rattle.board.specs.SeatView.{first_seat}
use Rattle.board.specs.Boards.{seat_view, IsMadeOf}
use Rattle.board.specs.declared.boards.Board.{Board}
use Rattle.crew.specs.Named.{tray_count}
use Rattle.workers.specs.inner.Gathering.{HasGathered}
use Rattle.work.specs.Pushes.{AreDealt, pushed}
use Rattle.work.specs.declared.tasks.Tasks.{Tasks}
use Rattle.workers.specs.inner.Shifts.{IsShift}
use Rattle.workers.specs.declared.gathering.Gathered.{Gathered}
use Rattle.workers.specs.declared.tasks.Shift.{Shift}
use Rattle.work.specs.declared.works.Batch.{Batch}

-- a deque for each worker, to which what is ready of a list was dealt
pub record AreDealtFor (list : RoundListView) (workers : ℕ) (tasks : Vec Tasks Global) : Type 0 where
  pub one_each : vec_len tasks ≡ workers
  pub dealt : AreDealt (first_ready_of list.exchanges) (map pushed tasks.items) (length (first_ready_of list.exchanges))

-- what each exchange of the list waits for, and such deques
pub record HasDealt (list : RoundListView) (workers : ℕ) (deps : RoundListView) (tasks : Vec Tasks Global) : Type 0 where
  pub same : deps ≡ list
  pub dealt : AreDealtFor list workers tasks

-- a place for each record, and the first seat of a board
pub record HasFirstSeat {T : Type 0} (table : T → Table) (board : Board T) (gathered : Gathered T) : Type 0 where
  pub has : HasGathered table board gathered
  pub first : seat_view gathered.seat ≡ first_seat

-- which was made of these
pub record IsSeated {T : Type 0} (table : T → Table) (rules : Rules) (list : RoundListView) (tables : List T)
    (board : Board T) (gathered : Gathered T) : Type 0 where
  pub made : IsMadeOf table rules list tables board
  pub seat : HasFirstSeat table board gathered

-- a board is shared, with what the batch has for all and a tray for each worker
pub record IsShared {T X G : Type 0} (table : T → Table) (fits : X → Table → Type 0) (batch : Batch X G)
    (made : Board T) (workers : ℕ) (shift : Shift T X G) : Type 0 where
  pub of_shift : IsShift table fits shift
  pub board : shift.shop.board ≡ made
  pub shared : shift.shop.shared ≡ batch.shared
  pub trays : tray_count shift.trays ≡ workers
