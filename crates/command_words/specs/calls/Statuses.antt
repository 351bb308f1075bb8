-- The status of an outcome, and what is told of it. Source: this project.
use Rattle.std.specs.Prelude.{◌≡◌, ℕ, Result, Ok, Err}
use Rattle.bench_types.specs.declared.faults.Fault.{Fault}
use Rattle.bench_types.specs.declared.sinks.Sink.{Ghosts as Sink}
use Rattle.command_words.specs.Statuses.{told_of, IsTold}

abbrev pub status_of : {T : Type 0} → Result T Fault → ℕ
status_of (Ok done) = 0
status_of (Err fault) = 1

-- what is told of what was done, or came to a fault: nothing, or that fault
abbrev pub IsOutcomeTold : {E T : Type 0} → Sink E → E → E → Result T Fault → Type 0
IsOutcomeTold sink old new (Ok done) = new ≡ old
IsOutcomeTold sink old new (Err fault) = IsTold sink old new (told_of fault)
