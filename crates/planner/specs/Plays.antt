-- What playing a schedule comes to. Source: this project.
use Rattle.std.specs.Prelude.{◌≡◌, ℕ, ◌<◌, false, List, length, take, slice_get, Some}
use Rattle.bench_types.specs.declared.exchanges.Exchange.{Exchange}
use Rattle.bench_types.specs.declared.exchanges.Record.{Record}
use Rattle.bench_types.specs.declared.exchanges.Rules.{Rules}
use Rattle.bench_types.specs.declared.faults.Fault.{Fault}
use Rattle.bench_types.specs.declared.faults.Fault.TheVariants as fault
use Rattle.model.specs.Table.{Table}
use Rattle.node_table.specs.NodeTableView.{NodeTableView}
use Rattle.model.specs.RoundLists.{RoundListView}
use Rattle.node_table.specs.NodeTableView.{tables_in}
use Rattle.model.specs.Folds.{fold_of}
use Rattle.dependencies.specs.declared.events.Event.{Event}
use Rattle.dependencies.specs.declared.events.Event.TheVariants.{Start, Finish}
use Rattle.dependencies.specs.Schedules.{is_running, MayStart, IsLawful, AreFinished}
use Rattle.dependencies.specs.States.{state_of}

-- a whole schedule was carried out: these are the tables in their places at its end, and the records
pub record IsPlayed (rules : Rules) (es : List Exchange) (events : List Event) (before after : List Table)
    (records : List Record) : Type 0 where
  pub lawful : IsLawful es events
  pub finished : AreFinished es events
  pub size : length after ≡ length before
  pub home : (node : ℕ) → node < length before → (state_of rules before es events).home node ≡ slice_get after node
  pub kept : (i : ℕ) → i < length es → (state_of rules before es events).records i ≡ slice_get records i
  -- and so the end of list order
  pub tables : after ≡ (fold_of rules before es).tables
  pub given : records ≡ (fold_of rules before es).records

-- and so with the tables in memory
abbrev pub ArePlayed :
    Rules → RoundListView → List Event → List NodeTableView → List NodeTableView → List Record → Type 0
ArePlayed rules plan events before after records =
    IsPlayed rules plan.exchanges events (tables_in before) (tables_in after) records

-- the events before a place are a lawful schedule, and there stands this one
pub record IsEventAt (es : List Exchange) (events : List Event) (k : ℕ) (e : Event) : Type 0 where
  pub lawful : IsLawful es (take k events)
  pub event : slice_get events k ≡ Some e

-- why a schedule was refused: the first event that isn't allowed, or behind the last event an exchange that isn't
-- finished
abbrev pub IsRefusal : List Exchange → List Event → Fault → Type 0
IsRefusal es events fault.NotAllowed = (k i : ℕ) × IsEventAt es events k (Start i) × (¬ MayStart es (take k events) i)
IsRefusal es events fault.NotRunning =
    (k i : ℕ) × IsEventAt es events k (Finish i) × (is_running (take k events) i ≡ false)
IsRefusal es events fault.Unfinished = IsLawful es events × (¬ AreFinished es events)
IsRefusal es events f = f ≡ fault.OutOfMemory
