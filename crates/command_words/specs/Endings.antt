-- What comes of words that have no job. `sink` has the words of the program's output, `errors` those of the sink for
-- faults and refusals. Source: this project.
use Rattle.std.specs.Prelude.{◌≡◌, string_bytes}
use Rattle.bench_types.specs.declared.faults.Fault.{Fault}
use Rattle.bench_types.specs.declared.faults.Fault.TheVariants as faults
use Rattle.bench_types.specs.declared.sinks.Sink.{Ghosts as Sink}
use Rattle.bench_types.specs.Output.{IsWritten, IsBrokenOff}
use Rattle.command_words.specs.declared.words.NoJob.{NoJob}
use Rattle.command_words.specs.declared.words.NoJob.TheVariants.{Help, Refused, OutOfMemory}
use Rattle.command_words.specs.Statuses.{IsTold}

module _ {W : Type 0} (sink : Sink W) (out out' : W) where
  -- there is no job, but help, which was written
  abbrev pub IsHelpWritten : NoJob → Type 0
  IsHelpWritten (Help text) = IsWritten sink out out' (string_bytes text)
  IsHelpWritten _ = ⊥

  -- there is no job, and the fault is that help was cut, or that memory ran out, and then nothing was written
  abbrev pub IsAnswerFault : Fault → NoJob → Type 0
  IsAnswerFault fault (Help text) = (fault ≡ faults.WriteFailed) × IsBrokenOff sink out out' (string_bytes text)
  IsAnswerFault fault (Refused text) = ⊥
  IsAnswerFault fault OutOfMemory = (fault ≡ faults.OutOfMemory) × (out' ≡ out)

  -- there is no job, but a refusal, which was told; nothing was written
  abbrev pub IsRefusalTold : {E : Type 0} → Sink E → E → E → NoJob → Type 0
  IsRefusalTold errors err err' (Refused text) = (out' ≡ out) × IsTold errors err err' (string_bytes text)
  IsRefusalTold errors err err' _ = ⊥
