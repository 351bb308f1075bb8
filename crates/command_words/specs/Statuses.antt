-- What the program tells of a fault. Source: this project.
use Rattle.std.specs.Prelude.{ℕ, ◌⊎◌, List, ◌++◌, codes}
use Rattle.bench_types.specs.declared.faults.Fault.{Fault}
use Rattle.bench_types.specs.declared.sinks.Sink.{Ghosts as Sink}
use Rattle.bench_types.specs.calls.FaultLine.{fault_line}
use Rattle.bench_types.specs.Output.{IsWritten, IsBrokenOff}

-- what is told of a fault: its line, with the line's end
abbrev pub told_of : Fault → List ℕ
told_of fault = fault_line fault ++ codes "\n"

-- this text was told: the sink has taken it, or has failed and has taken a beginning of it
abbrev pub IsTold : {E : Type 0} → Sink E → E → E → List ℕ → Type 0
IsTold sink old new text = IsWritten sink old new text ⊎ IsBrokenOff sink old new text
