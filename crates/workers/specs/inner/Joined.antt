-- What comes back of workers. Source: this project.
use Rattle.std.specs.Prelude.{◌≡◌, ℕ, ◌+◌, ◌<◌, ◌≤◌, ◌⊎◌, true, List, length, map}
use Rattle.bench_types.specs.declared.exchanges.Record.{Record}
use Rattle.model.specs.Table.{Table}
use Rattle.model.specs.Folds.{fold_of}
use Rattle.board.specs.SeatView.{IsWhole}
use Rattle.board.specs.Plan.{BoardPlan}
use Rattle.board.specs.Boards.{exchanges_of, plan_of, seat_view}
use Rattle.board.specs.declared.boards.Board.{Board}
use Rattle.work.specs.declared.works.Done.{Done}
use Rattle.workers.specs.inner.Gathering.{HasGathered}
use Rattle.workers.specs.declared.gathering.Gathered.{Gathered}
use Rattle.workers.specs.declared.tasks.Shift.{Shift}

-- the seats of so many workers were joined to another, and their records are in their places
pub record HasTakenIn {T : Type 0} (table : T → Table) (board : Board T) (workers : ℕ) (old new : Gathered T) : Type 0 where
  pub gathered : HasGathered table board new
  pub parts : (seat_view new.seat).parts ≡ (seat_view old.seat).parts + workers
  pub halted : (seat_view new.seat).is_halted ≡ (seat_view old.seat).is_halted
  pub ends : 0 < workers → (length (exchanges_of board) ≤ (seat_view new.seat).seen) ⊎ ((seat_view new.seat).is_stopped ≡ true)

-- a whole seat has seen that all exchanges are finished, and has their records
pub record HasSeenAll {T : Type 0} (table : T → Table) (board : Board T) (gathered : Gathered T) : Type 0 where
  pub has : HasGathered table board gathered
  pub whole : IsWhole (seat_view gathered.seat)
  pub seen : (seat_view gathered.seat).seen ≡ length (exchanges_of board)

-- the tables and the records of list order
abbrev pub IsEndOf : {T : Type 0} → (T → Table) → BoardPlan → List T → List Record → Type 0
IsEndOf table plan new records = fold_of plan.rules plan.tables plan.list.exchanges ≡ record { tables = map table new; records = records }

-- what the list comes to, with what the workers shared and what was made meanwhile
pub record HasClosed {T X G M : Type 0} (table : T → Table) (shift : Shift T X G) (own : M) (done : Done T X M) : Type 0 where
  pub ended : IsEndOf table (plan_of table shift.shop.board) done.tables.items done.records.items
  pub shared : done.shared ≡ shift.shop.shared
  pub made : done.made ≡ own
