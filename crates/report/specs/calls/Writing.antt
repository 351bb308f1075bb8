-- What a call that writes a text answers. `sink` has the words of a sink, and `old` and `new` are its states before and
-- after the call. Source: this project.
use Rattle.std.specs.Prelude.{ℕ, List, Result, OnOk, IfErr}
use Rattle.bench_types.specs.declared.faults.Fault.{Fault}
use Rattle.bench_types.specs.declared.sinks.Sink.{Ghosts as Sink}
use Rattle.bench_types.specs.Output.{IsWritten, IsWriteFault}

-- the text was written, or the answer is the fault of writing it
pub record WritesText {W : Type 0} (sink : Sink W) (old new : W) (text : List ℕ)
    (answer : Result (Unit {0}) Fault) : Type 0 where
  pub written : OnOk answer (IsWritten sink old new text)
  pub fault : IfErr answer (IsWriteFault sink old new text)
