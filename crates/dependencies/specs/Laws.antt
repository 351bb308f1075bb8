-- What holds of every lawful schedule of every list of exchanges. Source: this project.
use Rattle.std.specs.Prelude.{◌≡◌, ℕ, ◌<◌, ◌⊎◌, ◌↔◌, Bool, true, List, length, All}
use Rattle.bench_types.specs.declared.exchanges.Exchange.{Exchange}
use Rattle.bench_types.specs.declared.exchanges.Rules.{Rules}
use Rattle.model.specs.Table.{Table}
use Rattle.dependencies.specs.declared.events.Event.{Event}
use Rattle.dependencies.specs.Sharing.{share_node}
use Rattle.dependencies.specs.Schedules.{is_finished, AreFinished, IsLawful}
use Rattle.dependencies.specs.Neighbours.{predecessors}
use Rattle.dependencies.specs.States.{state_of}
use Rattle.dependencies.specs.ListOrder.{AreAmong, IsInListOrder, IsEndOfList, CanGoOn, AreClosed, schedule_of}

-- it stands in list order at each moment
abbrev pub EachKeepsListOrder : Type 0
EachKeepsListOrder =
    (rules : Rules) (ts : List Table) (es : List Exchange) (events : List Event)
    → AreAmong ts es → IsLawful es events → IsInListOrder rules ts es events (state_of rules ts es events)

-- and where all exchanges are finished at the end of list order
abbrev pub EachWholeOneGivesListOrder : Type 0
EachWholeOneGivesListOrder =
    (rules : Rules) (ts : List Table) (es : List Exchange) (events : List Event)
    → AreAmong ts es → IsLawful es events → AreFinished es events
    → IsEndOfList rules ts es (state_of rules ts es events)

-- all its exchanges are finished, or it can go on
abbrev pub EachCanGoOn : Type 0
EachCanGoOn =
    (es : List Exchange) (events : List Event) → IsLawful es events → AreFinished es events ⊎ CanGoOn es events

-- the predecessors of an exchange are finished
abbrev pub ArePredecessorsFinished : List Exchange → List Event → ℕ → Type 0
ArePredecessorsFinished es events i = All (λ j. is_finished events j ≡ true) (predecessors es i)

-- each earlier exchange that shares a node with it is
abbrev pub AreEarlierSharersFinished : List Exchange → List Event → ℕ → Type 0
AreEarlierSharersFinished es events i = (j : ℕ) → j < i → share_node es i j ≡ true → is_finished events j ≡ true

abbrev pub PredecessorsTellOfAllEarlier : Type 0
PredecessorsTellOfAllEarlier =
    (es : List Exchange) (events : List Event) → IsLawful es events → (i : ℕ) → i < length es
    → ArePredecessorsFinished es events i ↔ AreEarlierSharersFinished es events i

abbrev pub TwoSetsMakeASchedule : Type 0
TwoSetsMakeASchedule =
    (es : List Exchange) (first second : ℕ → Bool) → AreClosed es first second
    → IsLawful es (schedule_of es first second)
