-- The board's rule: what holds at each moment, between any two steps of any threads. Word 0 counts the finished
-- exchanges by twos, and is odd where a seat has called for a stop. Word i + 1 is that of exchange i. Slot n is that of
-- node n, and has its table unless an exchange of the node runs. The rule sees each table in memory as the model's
-- table. Source: this project.
use Rattle.std.specs.Prelude.{◌≡◌, ℕ, ◌+◌, ◌*◌, ◌<◌, ◌≤◌, ◌⊎◌, true, false, List, [], length, slice_index, Option, Some, None}
use mathlib.Core.Option.{some}
use lib.ListN.{get_elem?}
use Rattle.bench_types.specs.declared.exchanges.Exchange.{Exchange}
use Rattle.model.specs.Table.{Table}
use Rattle.dependencies.specs.Sharing.{takes_part, share_node}
use Rattle.dependencies.specs.Neighbours.{predecessors, pending_of}
use Rattle.atomic_table.specs.Table.{State}
use Rattle.board.specs.Weights.{total, only, times, flag}
use Rattle.board.specs.SeatView.{ALL_PARTS}
use Rattle.board.specs.Plan.{BoardPlan, IsBoardPlan, table_at}
use Rattle.board.specs.declared.views.View.{View}

-- How often an index stands in the lists of all seats.

abbrev pub made_in : List View → ℕ → ℕ
made_in views i = total (λ v. times i v.seat.made) views

abbrev pub held_in : List View → ℕ → ℕ
held_in views i = total (λ v. times i v.seat.held) views

-- a claimed exchange whose tables are on their way, out of their slots or back
abbrev pub moving_in : List View → ℕ → ℕ
moving_in views i = total (λ v. times i v.moving) views

abbrev pub running_in : List View → ℕ → ℕ
running_in views i = held_in views i + moving_in views i

abbrev pub freed_in : List View → ℕ → ℕ
freed_in views i = total (λ v. times i v.seat.freed) views

abbrev pub told_in : List View → ℕ → ℕ
told_in views i = total (λ v. times i v.seat.told) views

abbrev pub known_in : List View → ℕ → ℕ
known_in views i = total (λ v. times i v.seat.known) views

-- a release that is owed: by which exchange, and of which
abbrev pub from_only : ℕ → ℕ × ℕ → ℕ
from_only i release = only i release.0

abbrev pub to_only : ℕ → ℕ × ℕ → ℕ
to_only i release = only i release.1

abbrev pub owed_from : List View → ℕ → ℕ
owed_from views i = total (λ v. total (from_only i) v.owes) views

abbrev pub owed_to : List View → ℕ → ℕ
owed_to views i = total (λ v. total (to_only i) v.owes) views

-- how many exchanges are finished
abbrev pub finished_in : List View → ℕ
finished_in views = total (λ v. length v.seat.made) views

abbrev pub parts_in : List View → ℕ
parts_in views = total (λ v. v.seat.parts) views

abbrev pub stops_known : List View → ℕ
stops_known views = total (λ v. flag v.seat.is_stopped) views

abbrev pub stops_called : List View → ℕ
stops_called views = total (λ v. flag v.seat.is_halted) views

-- 1. Each exchange was claimed at most once, and only once each earlier one that shares a node with it was finished.
pub record IsInOrder (es : List Exchange) (made running : ℕ → ℕ) : Type 0 where
  pub within : (i : ℕ) → length es ≤ i → made i + running i ≡ 0
  pub once : (i : ℕ) → made i + running i ≤ 1
  pub free : (i j : ℕ) → 0 < made i + running i → j < i → share_node es i j ≡ true → made j ≡ 1

-- 2. The word of an exchange that was claimed is TAKEN. That of another is the number of its predecessors that haven't
-- released it yet, whether they are unfinished or only owe it the release.
abbrev pub TAKEN : ℕ
TAKEN = 3

abbrev pub exchange_word : List ℕ → ℕ → ℕ
exchange_word words i = slice_index words (i + 1)

pub record CountsPredecessors (es : List Exchange) (made running owed : ℕ → ℕ) (words : List ℕ) : Type 0 where
  pub size : length words ≡ length es + 1
  pub taken : (i : ℕ) → 0 < made i + running i → (exchange_word words i ≡ TAKEN) × (owed i ≡ 0)
  pub waits : (i : ℕ) → i < length es → made i + running i ≡ 0
      → exchange_word words i + total made (predecessors es i) ≡ pending_of es i + owed i
  pub bounded : (i : ℕ) → i < length es → made i + running i ≡ 0 → exchange_word words i ≤ pending_of es i

-- 3. An exchange that has predecessors was freed by one release, the last, and no other was freed.
pub record NamesFreed (es : List Exchange) (freed : ℕ → ℕ) (words : List ℕ) : Type 0 where
  pub ready : (i : ℕ) → i < length es → 0 < pending_of es i
      → (exchange_word words i ≡ 0) ⊎ (exchange_word words i ≡ TAKEN) → freed i ≡ 1
  pub waiting : (i : ℕ) → i < length es → 0 < exchange_word words i → exchange_word words i < TAKEN → freed i ≡ 0
  pub first : (i : ℕ) → (length es ≤ i) ⊎ (pending_of es i ≡ 0) → freed i ≡ 0

-- 4. Where a node's exchanges before k are finished and none from k on was claimed, its slot has its table of list
-- order before k. Where an exchange was claimed and its tables aren't on their way, the slots of its nodes are empty.
abbrev pub Slot : Type 0
Slot = Option Table

abbrev pub Home : Type 0
Home = mathlib.Core.Option.Option Slot

abbrev pub HasTable : List Home → ℕ → Table → Type 0
HasTable homes node t = get_elem? homes node ≡ some (some (Some t))

abbrev pub AreFinishedBelow : List Exchange → (ℕ → ℕ) → ℕ → ℕ → Type 0
AreFinishedBelow es made node k = (j : ℕ) → j < k → takes_part es node j ≡ true → made j ≡ 1

abbrev pub NoneIsClaimedFrom : List Exchange → (ℕ → ℕ) → (ℕ → ℕ) → ℕ → ℕ → Type 0
NoneIsClaimedFrom es made running node k = (j : ℕ) → k ≤ j → takes_part es node j ≡ true → made j + running j ≡ 0

pub record HasTables (plan : BoardPlan) (made running held : ℕ → ℕ) (homes : List Home) : Type 0 where
  pub size : length homes ≡ plan.list.nodes
  pub home : (node k : ℕ) → node < plan.list.nodes → k ≤ length plan.list.exchanges
      → AreFinishedBelow plan.list.exchanges made node k
      → NoneIsClaimedFrom plan.list.exchanges made running node k
      → HasTable homes node (table_at plan node k)
  pub away : (i node : ℕ) → 0 < held i → takes_part plan.list.exchanges node i ≡ true
      → get_elem? homes node ≡ some (some None)

-- 5. What seats know is so.
pub record AreInformed (views : List View) (stop : ℕ) : Type 0 where
  pub told : (i : ℕ) → 0 < told_in views i → 0 < made_in views i + running_in views i
  pub known : (i : ℕ) → 0 < known_in views i → (made_in views i ≡ 1) × (owed_from views i ≡ 0)
  pub seen : (k : ℕ) (v : View) → get_elem? views k ≡ some v → v.seat.seen ≤ finished_in views
  pub stopped : 0 < stops_known views → stop ≡ 1
  pub halted : 0 < stops_called views → stop ≡ 1
  pub called : stop ≡ 1 → 0 < stops_called views

-- 6. Seats that aren't spent have all parts together. A seat owes releases for what it has made, each to a successor.
abbrev pub OwesForMade : List Exchange → View → Type 0
OwesForMade es v =
    (i j : ℕ) → 0 < total (λ release. from_only i release * to_only j release) v.owes
    → (0 < times i v.seat.made) × (0 < times i (predecessors es j))

pub record IsSpent (v : View) : Type 0 where
  pub made : v.seat.made ≡ []
  pub held : v.seat.held ≡ []
  pub freed : v.seat.freed ≡ []
  pub told : v.seat.told ≡ []
  pub known : v.seat.known ≡ []
  pub moving : v.moving ≡ []
  pub owes : v.owes ≡ []
  pub halted : v.seat.is_halted ≡ false

pub record AreSeats (es : List Exchange) (views : List View) : Type 0 where
  pub parts : parts_in views ≡ ALL_PARTS
  pub spent : (k : ℕ) (v : View) → get_elem? views k ≡ some v → v.seat.parts ≡ 0 → IsSpent v
  pub owes : (k : ℕ) (v : View) → get_elem? views k ≡ some v → OwesForMade es v

pub record Orderly (plan : BoardPlan) (s : State Slot View) : Type 0 where
  pub planned : IsBoardPlan plan
  pub in_order : IsInOrder plan.list.exchanges (made_in s.views) (running_in s.views)
  pub words : CountsPredecessors plan.list.exchanges (made_in s.views) (running_in s.views) (owed_to s.views) s.words
  pub freed : NamesFreed plan.list.exchanges (freed_in s.views) s.words
  pub tables : HasTables plan (made_in s.views) (running_in s.views) (held_in s.views) s.homes
  -- the count word
  pub stop : ℕ
  pub stop_bit : stop ≤ 1
  pub count : slice_index s.words 0 ≡ finished_in s.views * 2 + stop
  pub sound : AreInformed s.views stop
  pub seats : AreSeats plan.list.exchanges s.views
