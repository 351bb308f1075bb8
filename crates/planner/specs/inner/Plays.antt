-- One event of a play. Source: this project.
use Rattle.std.specs.Prelude.{◌≡◌, ◌⊎◌}
use Rattle.bench_types.specs.declared.faults.Fault.{Fault}
use Rattle.bench_types.specs.declared.faults.Fault.TheVariants as fault
use Rattle.dependencies.specs.declared.events.Event.{Event}
use Rattle.dependencies.specs.declared.events.Event.TheVariants.{Start, Finish}
use Rattle.planner.specs.Stages.{ScheduleView, CanStart, IsRunning, Starts, Finishes}

-- an event is carried out on a schedule
abbrev pub Follows : Event → ScheduleView → ScheduleView → Type 0
Follows (Start i) old new = Starts i old new
Follows (Finish i) old new = Finishes i old new

-- why it isn't: it isn't allowed, or memory ran out
abbrev pub IsEventRefused : Event → ScheduleView → Fault → Type 0
IsEventRefused (Start i) s f = (f ≡ fault.NotAllowed) × (¬ (CanStart s i))
IsEventRefused (Finish i) s f = ((f ≡ fault.NotRunning) × (¬ (IsRunning s i))) ⊎ (f ≡ fault.OutOfMemory)
