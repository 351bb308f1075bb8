-- How far each exchange of a list is. Source: this project.
use Rattle.std.specs.Prelude.{◌≡◌, ◌≢◌, ℕ, ◌<◌, Bool, true, false, if◌then◌else◌, List, length, map, slice_index_or, slice_set}
use Rattle.bench_types.specs.declared.exchanges.Exchange.{Exchange}
use Rattle.model.specs.RoundLists.{RoundListView}
use Rattle.model.specs.calls.RoundLists.{IsRoundPlan}
use Rattle.dependencies.specs.declared.events.Event.{Event}
use Rattle.planner.specs.declared.schedules.Stage.{Stage}
use Rattle.planner.specs.declared.schedules.Stage.TheVariants.{Waiting, Running, Done}
use Rattle.dependencies.specs.Sharing.{share_node}
use Rattle.dependencies.specs.Schedules.{is_started, is_finished, IsLawful}

-- a plan, and the stage of each of its exchanges
pub record ScheduleView : Type 0 where
  pub plan : RoundListView
  pub stages : List Stage

abbrev pub standing_of : RoundListView → List Stage → ScheduleView
standing_of plan stages = record { plan = plan; stages = stages }

abbrev pub stage_in : List Stage → ℕ → Stage
stage_in stages i = slice_index_or stages i Waiting

-- the stage of an exchange after these events
abbrev pub stage_after : List Event → ℕ → Stage
stage_after events i = if is_finished events i then Done else if is_started events i then Running else Waiting

-- where an exchange runs or is done, each earlier one that shares a node with it is done
pub record IsSchedule (s : ScheduleView) : Type 0 where
  pub planned : IsRoundPlan s.plan
  pub size : length s.stages ≡ length s.plan.exchanges
  pub closed : (i j : ℕ) → j < i → i < length s.plan.exchanges → stage_in s.stages i ≢ Waiting
      → share_node s.plan.exchanges i j ≡ true → stage_in s.stages j ≡ Done

-- each earlier exchange that shares a node with it is done
abbrev pub IsFree : ScheduleView → ℕ → Type 0
IsFree s i = (j : ℕ) → j < i → share_node s.plan.exchanges i j ≡ true → stage_in s.stages j ≡ Done

pub record CanStart (s : ScheduleView) (i : ℕ) : Type 0 where
  pub within : i < length s.plan.exchanges
  pub waiting : stage_in s.stages i ≡ Waiting
  pub free : IsFree s i

-- the first of all that can start
abbrev pub IsNextReady : ScheduleView → ℕ → Type 0
IsNextReady s i = CanStart s i × ((j : ℕ) → j < i → ¬ (CanStart s j))

abbrev pub IsRunning : ScheduleView → ℕ → Type 0
IsRunning s i = stage_in s.stages i ≡ Running

abbrev pub IsFinished : ScheduleView → ℕ → Type 0
IsFinished s i = stage_in s.stages i ≡ Done

abbrev pub with_stage : ScheduleView → ℕ → Stage → ScheduleView
with_stage s i stage = standing_of s.plan (slice_set s.stages i stage)

abbrev pub waiting_at_first : Exchange → Stage
waiting_at_first e = Waiting

-- an exchange that could start now runs, and nothing else has changed
abbrev pub Starts : ℕ → ScheduleView → ScheduleView → Type 0
Starts i old new = CanStart old i × (new ≡ with_stage old i Running)

-- an exchange that ran is done now, and nothing else has changed
abbrev pub Finishes : ℕ → ScheduleView → ScheduleView → Type 0
Finishes i old new = IsRunning old i × (new ≡ with_stage old i Done)

-- nothing is started
abbrev pub not_started : RoundListView → ScheduleView
not_started plan = standing_of plan (map waiting_at_first plan.exchanges)

abbrev pub runs : Stage → Bool
runs Waiting = false
runs Running = true
runs Done = false

abbrev pub is_over : Stage → Bool
is_over Waiting = false
is_over Running = false
is_over Done = true

-- some lawful schedule leads there
pub record HasSchedule (s : ScheduleView) : Type 0 where
  pub events : List Event
  pub lawful : IsLawful s.plan.exchanges events
  pub stages : (i : ℕ) → i < length s.plan.exchanges → stage_in s.stages i ≡ stage_after events i
