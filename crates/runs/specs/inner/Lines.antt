-- The rows of a scenario's rounds in a comparison. Source: this project.
use Rattle.std.specs.Prelude.{◌≡◌, ℕ, ◌++◌, List, Result, OnOk, IfOk, IfErr}
use Rattle.bench_types.specs.declared.faults.Fault.{Fault}
use Rattle.bench_types.specs.declared.sinks.Sink.{Ghosts as Sink}
use Rattle.bench_types.specs.Output.{IsWritten}
use Rattle.scenario.specs.Settings.{Settings}
use Rattle.runs.specs.Comparisons.{lines_upto, IsFaultInLines}

-- behind whatever text was written and flushed: all its lines are, and the scenario comes back, or a fault among them
pub record AnswersLines {W : Type 0} (sink : Sink W) (old new : W) (s : Settings) (workers : ℕ)
    (answer : Result Settings Fault) : Type 0 where
  pub same : IfOk answer (λ back. back ≡ s)
  pub written : OnOk answer ((start : W) (whole : List ℕ) → IsWritten sink start old whole
      → IsWritten sink start new (whole ++ lines_upto s s.rounds))
  pub fault : IfErr answer (λ fault. (start : W) (whole : List ℕ) → IsWritten sink start old whole
      → IsFaultInLines sink start new whole s workers fault)
