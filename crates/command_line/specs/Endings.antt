-- What comes of words, those behind the program's name. `source` and `sink` have the words of the two ends of the
-- program, `errors` those of the sink for faults and refusals, `discard` and `file` those of the sinks for a trace.
-- Source: this project.
use Rattle.std.specs.Prelude.{◌≡◌, ◌⊎◌, ℕ, List}
use Rattle.bench_types.specs.declared.faults.Fault.{Fault}
use Rattle.bench_types.specs.declared.sinks.Sink.{Ghosts as Sink}
use Rattle.bench_types.specs.declared.sources.Source.{Ghosts as Source}
use Rattle.command_words.specs.Endings.{IsAnswerFault, IsHelpWritten}
use Rattle.command_words.specs.Statuses.{IsTold, told_of}
use Rattle.command_words.specs.Words.{AskFor, HaveNoJob}
use Rattle.command_words.specs.declared.jobs.Job.{Job}
use Rattle.command_words.specs.declared.words.NoJob.{NoJob}
use Rattle.command_line.specs.Jobs.{IsPerformed, IsJobFault}

module _ {R : Type 0} (source : Source R) (reader reader' : R) (words : List (List ℕ)) where
  -- the words have no job, nothing was read, and this came of the reason
  pub record HaveAnswer (Comes : NoJob → Type 0) : Type 0 where
    pub reason : NoJob
    pub none : HaveNoJob words reason
    pub unread : reader' ≡ reader
    pub came : Comes reason

  module _
      {W E : Type 0} (sink : Sink W) (out out' : W) (errors : Sink E) (err err' : E) {D F : Type 0}
      (discard : Sink D) (file : Sink F) where
    -- the words ask for the job, and it was done
    pub record HaveDone : Type 0 where
      pub job : Job
      pub asked : AskFor words job
      pub done : IsPerformed source reader reader' sink out out' discard file job

    -- the words ask for the job, and it came to the fault
    pub record HaveStopped (fault : Fault) : Type 0 where
      pub job : Job
      pub asked : AskFor words job
      pub stopped : IsJobFault source reader reader' sink out out' discard file job fault

    -- the job that the words ask for was done, or they ask for help, and it was written; no fault was told
    pub record IsDone : Type 0 where
      pub done : HaveDone ⊎ HaveAnswer (IsHelpWritten sink out out')
      pub untold : err' ≡ err

    -- the job that the words ask for came to a fault, or the answer to words that have none did; the fault was told
    pub record IsStoppedByFault : Type 0 where
      pub fault : Fault
      pub stopped : HaveStopped fault ⊎ HaveAnswer (IsAnswerFault sink out out' fault)
      pub told : IsTold errors err err' (told_of fault)
