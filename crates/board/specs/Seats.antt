-- A seat between two calls, and what a look tells it. Source: this project.
use Rattle.std.specs.Prelude.{◌≡◌, ◌≢◌, ℕ, ◌+◌, ◌<◌, ◌≤◌, ◌↔◌, Bool, true, false, List, [], ◌++◌, length, All}
use Rattle.bench_types.specs.declared.exchanges.Exchange.{Exchange}
use Rattle.dependencies.specs.Sharing.{share_node}
use Rattle.dependencies.specs.Neighbours.{pending_of, predecessors}
use Rattle.atomic_table.specs.Table.{Me}
use Rattle.board.specs.Weights.{times, Has}
use Rattle.board.specs.SeatView.{SeatView, IsWhole}
use Rattle.board.specs.Plan.{BoardPlan}
use Rattle.board.specs.Rule.{Slot}
use Rattle.board.specs.declared.views.View.{View}

abbrev pub Sat : Type 0
Sat = Me Slot View

abbrev pub view : BoardPlan → SeatView → List ℕ → List (ℕ × ℕ) → View
view plan seat moving owes = record { plan = plan; seat = seat; moving = moving; owes = owes }

-- a seat between two calls
abbrev pub resting : BoardPlan → SeatView → View
resting plan seat = view plan seat [] []

pub record Rests {S : Type 0} (m : Me S View) : Type 0 where
  pub slots : m.1 ≡ []
  pub moving : m.0.moving ≡ []
  pub owes : m.0.owes ≡ []
  pub parts : 0 < m.0.seat.parts

-- the count of finished exchanges, and whether a stop was called
pub record LookTells (es : List Exchange) (v : SeatView) (count : ℕ) (is_stopped : Bool) : Type 0 where
  pub seen : v.seen ≤ count
  pub made : length v.made ≤ count
  pub most : count ≤ length es
  pub stopped : v.is_stopped ≡ true → is_stopped ≡ true
  pub halted : v.is_halted ≡ true → is_stopped ≡ true
  pub whole_count : IsWhole v → count ≡ length v.made
  pub whole_stop : IsWhole v → is_stopped ≡ v.is_halted

-- an exchange stands once in what a seat has made and holds, and no two that it holds share a node
pub record IsApart (es : List Exchange) (v : SeatView) : Type 0 where
  pub once : (i : ℕ) → times i v.made + times i v.held ≤ 1
  pub apart : (i j : ℕ) → i ≢ j → Has v.held i → Has v.held j → share_node es i j ≡ false

-- every exchange that a whole seat was told is taken, it has made or holds; it knows of nothing but what it has made,
-- and of no stop but one that it has called for; and of what waits for others it has freed exactly what has all of
-- these made
pub record KnowsItsOwn (es : List Exchange) (v : SeatView) : Type 0 where
  pub told : (i : ℕ) → Has v.told i → Has (v.made ++ v.held) i
  pub known : (i : ℕ) → Has v.known i → Has v.made i
  pub halted : v.is_stopped ≡ true → v.is_halted ≡ true
  pub freed : (i : ℕ) → i < length es → pending_of es i ≢ 0 → Has v.freed i ↔ All (Has v.made) (predecessors es i)

-- what is so of each seat's lists, and more of those of a whole one: it was told of exchanges of the list, holds none
-- that it knows to be put back, and has freed each once, one that waits for others, of which it holds none
pub record IsInformed (es : List Exchange) (v : SeatView) : Type 0 where
  pub told : (i : ℕ) → Has v.told i → i < length es
  pub known : (i : ℕ) → Has v.known i → (i < length es) × (times i v.held ≡ 0)
  pub once : (i : ℕ) → times i v.freed ≤ 1
  pub freed : (i : ℕ) → Has v.freed i
      → (i < length es) × (pending_of es i ≢ 0) × All (λ j. times j v.held ≡ 0) (predecessors es i)
  pub whole : IsWhole v → KnowsItsOwn es v
