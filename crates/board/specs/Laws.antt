-- What the board's rule comes to: at each moment the board stands where a lawful schedule leads. And what a caller does
-- with a hold: it may carry out the exchange, and puts back what that leaves. Source: this project.
use Rattle.std.specs.Prelude.{◌≡◌, ℕ, ◌<◌, true, false, nat_lt, List, length, Some}
use mathlib.Core.Option.{some}
use lib.ListN.{get_elem?}
use Rattle.bench_types.specs.declared.exchanges.Record.{Record}
use Rattle.model.specs.Table.{Table}
use Rattle.model.specs.calls.RoundLists.{IsRoundPlan}
use Rattle.model.specs.calls.Exchanging.{MayBeExchanged, MakesOf}
use Rattle.model.specs.calls.Tables.{IsCluster}
use Rattle.dependencies.specs.declared.events.Event.{Event}
use Rattle.dependencies.specs.Sharing.{exchange_at, takes_part}
use Rattle.dependencies.specs.Schedules.{is_finished, is_running, IsLawful}
use Rattle.dependencies.specs.States.{state_of}
use Rattle.atomic_table.specs.Table.{State}
use Rattle.board.specs.Weights.{Has}
use Rattle.board.specs.SeatView.{SeatView, IsWhole}
use Rattle.board.specs.Seats.{resting, KnowsItsOwn}
use Rattle.board.specs.Plan.{BoardPlan}
use Rattle.board.specs.Rule.{Slot, made_in, running_in, Orderly}
use Rattle.board.specs.Boards.{IsHoldOf, MayPutBack}
use Rattle.board.specs.declared.boards.Hold.{Hold}
use Rattle.board.specs.declared.views.View.{View}

pub record IsScheduled (plan : BoardPlan) (s : State Slot View) : Type 0 where
  pub events : List Event
  pub lawful : IsLawful plan.list.exchanges events
  -- what seats have made is finished, and what they hold is running
  pub finished : (i : ℕ) → i < length plan.list.exchanges → is_finished events i ≡ nat_lt 0 (made_in s.views i)
  pub running : (i : ℕ) → i < length plan.list.exchanges → is_running events i ≡ nat_lt 0 (running_in s.views i)
  -- a node of which no exchange runs has its table of that schedule's state in its slot
  pub home : (node : ℕ) → node < plan.list.nodes
      → ((i : ℕ) → is_running events i ≡ true → takes_part plan.list.exchanges node i ≡ false)
      → (t : Table) × (get_elem? s.homes node ≡ some (some (Some t)))
      × ((state_of plan.rules plan.tables plan.list.exchanges events).home node ≡ Some t)

abbrev pub EachKeepsASchedule : Type 0
EachKeepsASchedule = (plan : BoardPlan) (s : State Slot View) → Orderly plan s → IsScheduled plan s

abbrev pub EachWholeSeatKnowsItsOwn : Type 0
EachWholeSeatKnowsItsOwn = (plan : BoardPlan) (s : State Slot View) (k : ℕ) (v : SeatView) → Orderly plan s
    → get_elem? s.views k ≡ some (resting plan v) → IsWhole v → KnowsItsOwn plan.list.exchanges v

module _ {T : Type 0} (table : T → Table) where
  -- the exchange of each hold may be carried out on its tables, where a board was made of a round's list and the tables
  -- of all its nodes
  abbrev pub EachHoldMayBeExchanged : Type 0
  EachHoldMayBeExchanged = (plan : BoardPlan) (i : ℕ) (hold : Hold T)
      → IsRoundPlan plan.list → IsCluster plan.list.nodes plan.tables → i < length plan.list.exchanges
      → IsHoldOf table plan i hold
      → MayBeExchanged (exchange_at plan.list.exchanges i) (table hold.initiator) (table hold.responder)

  -- the exchange of a hold was carried out on its tables, which are left with this
  abbrev pub IsCarriedOut : BoardPlan → Hold T → Hold T → Record → Type 0
  IsCarriedOut plan hold left sent =
      MakesOf table plan.rules (exchange_at plan.list.exchanges hold.index)
      hold.initiator hold.responder left.initiator left.responder sent

  abbrev pub EachMayBePutBack : Type 0
  EachMayBePutBack = (plan : BoardPlan) (v : SeatView) (hold left : Hold T) (sent : Record)
      → IsHoldOf table plan hold.index hold → Has v.held hold.index → left.index ≡ hold.index
      → IsCarriedOut plan hold left sent → MayPutBack table plan v left
