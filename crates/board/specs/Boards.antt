-- What the calls of a board say. Source: this project.
use Rattle.std.specs.Prelude.{◌≡◌, ◌≢◌, ℕ, ◌+◌, ◌<◌, ◌≤◌, ◌↔◌, ◌⊎◌, Bool, true, List, ◌++◌, length, map, All, Option, None, Some}
use Rattle.model.specs.RoundLists.{RoundListView}
use Rattle.bench_types.specs.declared.exchanges.Rules.{Rules}
use Rattle.bench_types.specs.declared.faults.Fault.{Fault}
use Rattle.bench_types.specs.declared.faults.Fault.TheVariants.{Unfinished}
use Rattle.atomic_table.specs.Seated.{TableId}
use Rattle.bench_types.specs.declared.exchanges.Exchange.{Exchange}
use Rattle.model.specs.Table.{Table}
use Rattle.dependencies.specs.Neighbours.{predecessors, pending_of, successors}
use Rattle.board.specs.Weights.{times, Has}
use Rattle.board.specs.SeatView.{SeatView, IsWhole, with_held, with_told, without_held, with_made, freed_by, having_seen, having_stopped}
use Rattle.board.specs.Plan.{BoardPlan, table_at, initiator_of, responder_of, exchanged_at}
use Rattle.board.specs.Keys.{key_plan}
use Rattle.board.specs.Seats.{Rests, LookTells}
use Rattle.model.specs.Folds.{fold_of}
use Rattle.board.specs.declared.boards.Board.{Board}
use Rattle.board.specs.declared.boards.Seat.{Seat}
use Rattle.board.specs.declared.boards.Hold.{Hold}
use Rattle.board.specs.declared.boards.Claim.{Claim}
use Rattle.board.specs.declared.boards.Claim.TheVariants.{Held, Taken, NotReady}
use Rattle.board.specs.declared.boards.Freed.{Freed}
use Rattle.board.specs.declared.boards.Progress.{Progress}

abbrev pub board_id : {T : Type 0} → Board T → TableId
board_id board = board.table.shared.table_id

-- what the board was made of
abbrev pub plan_of : {T : Type 0} → (T → Table) → Board T → BoardPlan
plan_of table board = key_plan table board.table.shared.key

abbrev pub exchanges_of : {T : Type 0} → Board T → List Exchange
exchanges_of board = board.table.shared.key.list.value.exchanges

-- what contracts see of a seat
abbrev pub seat_view : {T : Type 0} → Seat T → SeatView
seat_view seat = seat.raw.me.0.seat

-- the board made the seat, or another seat of it was split to make it
pub record IsSeatOf {T : Type 0} (table : T → Table) (seat : Seat T) (board : Board T) : Type 0 where
  pub id : seat.raw.table_id ≡ board_id board
  pub plan : seat.raw.me.0.plan ≡ plan_of table board
  pub rests : Rests seat.raw.me
  pub within : (i : ℕ) → Has seat.raw.me.0.seat.held i → i < length (exchanges_of board)

-- an index stands in none of the seat's lists of claimed exchanges
abbrev pub IsNewTo : SeatView → ℕ → Type 0
IsNewTo v i = times i v.made + times i v.held + times i v.told + times i v.known ≡ 0

-- a hold of an exchange, with the two tables that it finds in list order
pub record IsHoldOf {T : Type 0} (table : T → Table) (plan : BoardPlan) (i : ℕ) (hold : Hold T) : Type 0 where
  pub index : hold.index ≡ i
  pub initiator : table hold.initiator ≡ table_at plan (initiator_of plan i) i
  pub responder : table hold.responder ≡ table_at plan (responder_of plan i) i

-- a claim that was refused since another has the exchange, and one that came too early
pub record IsTooEarly (plan : BoardPlan) (v : SeatView) (i : ℕ) : Type 0 where
  pub unknown : IsNewTo v i
  pub pending : pending_of plan.list.exchanges i ≢ 0
  pub freed : times i v.freed ≡ 0
  pub waits : ¬ All (λ j. 0 < times j v.made + times j v.known) (predecessors plan.list.exchanges i)

abbrev pub AreMade : BoardPlan → SeatView → ℕ → Type 0
AreMade plan v i = All (Has v.made) (predecessors plan.list.exchanges i)

-- what a claim answers, and what it makes of the seat
abbrev pub Claims : {T : Type 0} → (T → Table) → BoardPlan → SeatView → ℕ → Claim T → SeatView → Type 0
Claims table plan old i (Held hold) new =
    IsHoldOf table plan i hold × (new ≡ with_held old i) × IsNewTo old i × (IsWhole old → AreMade plan old i)
Claims table plan old i Taken new = (new ≡ with_told old i) × (IsWhole old → Has (old.made ++ old.held) i)
Claims table plan old i NotReady new = (new ≡ old) × IsTooEarly plan old i

-- what put_back asks: the seat has claimed it, and the tables are those that the exchange leaves
pub record MayPutBack {T : Type 0} (table : T → Table) (plan : BoardPlan) (v : SeatView) (hold : Hold T) : Type 0 where
  pub held : Has v.held hold.index
  pub initiator : table hold.initiator ≡ (exchanged_at plan hold.index).initiator
  pub responder : table hold.responder ≡ (exchanged_at plan hold.index).responder

-- the answer names some of the successors, each in its place
abbrev pub Among : Option ℕ → Option ℕ → Type 0
Among named all = (named ≡ None) ⊎ (named ≡ all)

-- and where the seat is whole those whose predecessors it has made
abbrev pub NamesReady : BoardPlan → SeatView → Option ℕ → Option ℕ → Type 0
NamesReady plan v named all = (j : ℕ) → all ≡ Some j → (named ≡ Some j) ↔ AreMade plan v j

pub record IsPutBack (plan : BoardPlan) (old : SeatView) (i : ℕ) (freed : Freed) (new : SeatView) : Type 0 where
  pub seen : ℕ
  pub is_stopped : Bool
  pub seat : new ≡ freed_by (freed_by (with_made (without_held old i) i seen is_stopped) freed.first) freed.second
  pub rises : old.seen ≤ seen
  pub stays : old.is_stopped ≡ true → is_stopped ≡ true
  pub first : Among freed.first (successors plan.list.exchanges i).first
  pub second : Among freed.second (successors plan.list.exchanges i).second
  pub whole_first : IsWhole old → NamesReady plan new freed.first (successors plan.list.exchanges i).first
  pub whole_second : IsWhole old → NamesReady plan new freed.second (successors plan.list.exchanges i).second

-- a count of finished exchanges, and whether a stop was called
abbrev pub Looks : BoardPlan → SeatView → Progress → SeatView → Type 0
Looks plan old progress new =
    (new ≡ having_seen old progress.finished progress.stopped)
    × LookTells plan.list.exchanges old progress.finished progress.stopped

pub record HasStopped (old new : SeatView) : Type 0 where
  pub seen : ℕ
  pub seat : new ≡ having_stopped old seen
  pub rises : old.seen ≤ seen

-- the tables of list order, where all exchanges are finished
abbrev pub AreLeft : {T : Type 0} → (T → Table) → BoardPlan → List T → Type 0
AreLeft table plan tables = map table tables ≡ (fold_of plan.rules plan.tables plan.list.exchanges).tables

-- fewer are finished than there are, and so the seat has seen fewer
abbrev pub IsUnfinished : BoardPlan → SeatView → Fault → Type 0
IsUnfinished plan v fault =
    (fault ≡ Unfinished) × ((v.seen < length plan.list.exchanges) × (length v.made < length plan.list.exchanges))

-- each exchange was put back by a whole seat, once
abbrev pub HasMadeAll : BoardPlan → SeatView → Type 0
HasMadeAll plan v =
    (length v.made ≡ length plan.list.exchanges)
    × ((i : ℕ) → i < length plan.list.exchanges → times i v.made ≡ 1)

-- a board was made of these
abbrev pub IsMadeOf : {T : Type 0} → (T → Table) → Rules → RoundListView → List T → Board T → Type 0
IsMadeOf table rules list tables board =
    plan_of table board ≡ record { rules = rules; list = list; tables = map table tables }
