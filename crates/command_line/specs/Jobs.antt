-- What a job comes to. `source` and `sink` have the words of the two ends of the program, `discard` those of the sink
-- where no trace is wanted, and `file` those of the sink over the file of a trace. Source: this project.
use Rattle.std.specs.Prelude.{◌≡◌, ℕ, ◌⊎◌, List, Ok, Some, None, Option, codes}
use Rattle.bench_types.specs.declared.faults.Fault.{Fault}
use Rattle.bench_types.specs.declared.faults.Fault.TheVariants.{WriteFailed}
use Rattle.bench_types.specs.declared.sinks.Sink.{Ghosts as Sink}
use Rattle.bench_types.specs.declared.sources.Source.{Ghosts as Source}
use Rattle.runs.specs.Inputs.{IsRead, IsInputFault}
use Rattle.runs.specs.Runs.{IsReported, IsRunFault}
use Rattle.runs.specs.Comparisons.{IsCompared, IsCompareFault}
use Rattle.bench_types.specs.Output.{IsWritten, IsWriteFault}
use Rattle.scenario.specs.Settings.{Settings}
use Rattle.command_words.specs.declared.jobs.Job.{Job}
use Rattle.command_words.specs.declared.jobs.Job.TheVariants.{Check, Run, Compare}

-- what is printed of a scenario that is lawful
abbrev pub ok_line : List ℕ
ok_line = codes "ok\n"

module _ {R W : Type 0} (source : Source R) (reader reader' : R) (sink : Sink W) (old new : W) where
  -- a scenario was read, and that was printed
  pub record IsChecked : Type 0 where
    pub settings : Settings
    pub read : IsRead source reader reader' (Ok settings)
    pub written : IsWritten sink old new ok_line

  -- a scenario was read, and then printing that came to this fault
  pub record IsCheckStopped (fault : Fault) : Type 0 where
    pub settings : Settings
    pub read : IsRead source reader reader' (Ok settings)
    pub written : IsWriteFault sink old new ok_line fault

  -- the fault of a check: of reading, and then nothing was printed, or of printing
  abbrev pub IsCheckFault : Fault → Type 0
  IsCheckFault fault = (IsInputFault source reader reader' fault × (new ≡ old)) ⊎ IsCheckStopped fault

  -- the file of the trace couldn't be made, and nothing was read or written
  pub record HasNoFile (fault : Fault) : Type 0 where
    pub answered : fault ≡ WriteFailed
    pub unread : reader' ≡ reader
    pub unwritten : new ≡ old

  module _ {D F : Type 0} (discard : Sink D) (file : Sink F) where
    -- the report was written, and the trace where a file is named for it
    abbrev pub IsReportedWith : {P : Type 0} → Option P → Type 0
    IsReportedWith None = (d d' : D) × IsReported source reader reader' sink old new discard d d'
    IsReportedWith (Some path) = (f f' : F) × IsReported source reader reader' sink old new file f f'

    -- the fault of that, with so many workers
    abbrev pub IsRunFaultWith : {P : Type 0} → Option P → ℕ → Fault → Type 0
    IsRunFaultWith None workers fault =
        (d d' : D) × IsRunFault source reader reader' sink old new discard d d' workers fault
    IsRunFaultWith (Some path) workers fault =
        HasNoFile fault ⊎ ((f f' : F) × IsRunFault source reader reader' sink old new file f f' workers fault)

    -- the job was done
    abbrev pub IsPerformed : Job → Type 0
    IsPerformed Check = IsChecked
    IsPerformed (Run trace workers) = IsReportedWith trace
    IsPerformed (Compare workers) = IsCompared source reader reader' sink old new

    -- the fault of a job
    abbrev pub IsJobFault : Job → Fault → Type 0
    IsJobFault Check fault = IsCheckFault fault
    IsJobFault (Run trace workers) fault = IsRunFaultWith trace workers fault
    IsJobFault (Compare workers) fault = IsCompareFault source reader reader' sink old new workers fault
