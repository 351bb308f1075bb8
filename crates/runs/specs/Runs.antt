-- What a run writes, and what stands where it fails. It writes a report and a trace: both headers, the report's
-- first, and then for each round the lines of the trace and the row of the report. The texts don't depend on the number
-- of workers; where there are several, one may not start. `sink` has the words of the sink of the report, and `old` and
-- `new` are its states before and after the call; `sink'`, `old'` and `new'` are those of the trace. `reader` and
-- `reader'` are the source before and after it.
-- Source: this project.
use Rattle.std.specs.Prelude.{◌≡◌, ℕ, ◌+◌, ◌<◌, ◌⊎◌, true, false, List, Ok}
use Rattle.bench_types.specs.declared.faults.Fault.{Fault}
use Rattle.bench_types.specs.declared.faults.Fault.TheVariants.{NoThread, WriteFailed}
use Rattle.bench_types.specs.declared.sinks.Sink.{Ghosts as Sink}
use Rattle.bench_types.specs.declared.sources.Source.{Ghosts as Source}
use Rattle.model.specs.Runs.{IsFaultOfWorkers}
use Rattle.bench_types.specs.Output.{IsWritten, IsWriteFault}
use Rattle.report.specs.Report.{report_header_line, report_line}
use Rattle.report.specs.Trace.{trace_header_line}
use Rattle.scenario.specs.Settings.{Settings}
use Rattle.played_rounds.specs.Outcomes.{row_in}
use Rattle.runs.specs.Inputs.{IsRead, IsInputFault}
use Rattle.runs.specs.Reports.{trace_in, report_upto, trace_upto, report_text, trace_text}

-- the text `whole` was written, and then writing `next` came to this fault
abbrev pub IsFaultAfter : {W : Type 0} → Sink W → W → W → List ℕ → List ℕ → Fault → Type 0
IsFaultAfter {W} sink old new whole next fault =
    (between : W) × IsWritten sink old between whole × IsWriteFault sink between new next fault

-- the report and the trace of these settings were written
pub record AreWritten {W X : Type 0} (sink : Sink W) (old new : W) (sink' : Sink X) (old' new' : X)
    (s : Settings) : Type 0 where
  pub report : IsWritten sink old new (report_text s)
  pub trace : IsWritten sink' old' new' (trace_text s)

-- rounds of a scenario are carried out and written, one after another, and one of them wasn't carried out, or writing it
-- came to this fault: `Wrote` says that so many were written, and `Stops` that so many were and what the next one came to
pub record IsFaultInRounds (s : Settings) (workers : ℕ) (fault : Fault) (Wrote Stops : ℕ → Type 0) : Type 0 where
  pub rounds : ℕ
  pub within : rounds < s.rounds
  pub stops : (IsFaultOfWorkers workers fault × Wrote rounds) ⊎ Stops rounds

module _ {W X : Type 0} (sink : Sink W) (old new : W) (sink' : Sink X) (old' new' : X) (s : Settings) where
  -- the headers, and what stands behind them of the first so many rounds, were written
  pub record AreWrittenUpto (rounds : ℕ) : Type 0 where
    pub report : IsWritten sink old new (report_upto s rounds)
    pub trace : IsWritten sink' old' new' (trace_upto s rounds)

  -- and then writing the next round's lines of the trace, or its row of the report behind them, came to this fault
  pub data StopsInRound (rounds : ℕ) (fault : Fault) : Type 0 where
    at_lines : IsWritten sink old new (report_upto s rounds)
        → IsFaultAfter sink' old' new' (trace_upto s rounds) (trace_in s (rounds + 1)) fault
        → StopsInRound rounds fault
    at_row : IsWritten sink' old' new' (trace_upto s (rounds + 1))
        → IsFaultAfter sink old new (report_upto s rounds) (report_line s.format (row_in s (rounds + 1))) fault
        → StopsInRound rounds fault

  -- the fault of the rounds and of writing the report and the trace: at a header, or in a round
  pub data IsWritingFault (workers : ℕ) (fault : Fault) : Type 0 where
    at_report_header : IsWriteFault sink old new (report_header_line s.format) fault → new' ≡ old'
        → IsWritingFault workers fault
    at_trace_header : IsWritten sink old new (report_header_line s.format)
        → IsWriteFault sink' old' new' trace_header_line fault
        → IsWritingFault workers fault
    in_rounds : IsFaultInRounds s workers fault AreWrittenUpto (λ rounds. StopsInRound rounds fault)
        → IsWritingFault workers fault

module _ {R W X : Type 0} (source : Source R) (reader reader' : R)
    (sink : Sink W) (old new : W) (sink' : Sink X) (old' new' : X) where
  -- a scenario was read, and its report and its trace were written
  pub record IsReported : Type 0 where
    pub settings : Settings
    pub read : IsRead source reader reader' (Ok settings)
    pub written : AreWritten sink old new sink' old' new' settings

  -- reading a scenario came to this fault, and nothing was written
  pub record IsUnwritten (fault : Fault) : Type 0 where
    pub input : IsInputFault source reader reader' fault
    pub report : new ≡ old
    pub trace : new' ≡ old'

  -- a scenario was read, and then its run with so many workers came to this fault
  pub record IsStopped (workers : ℕ) (fault : Fault) : Type 0 where
    pub settings : Settings
    pub read : IsRead source reader reader' (Ok settings)
    pub written : IsWritingFault sink old new sink' old' new' settings workers fault

  -- the fault of a run
  abbrev pub IsRunFault : ℕ → Fault → Type 0
  IsRunFault workers fault = IsUnwritten fault ⊎ IsStopped workers fault

-- an end that fails within a call is what the call answers, whatever else went wrong
abbrev pub TellsOfFailing : {W : Type 0} → Sink W → W → W → Fault → Type 0
TellsOfFailing sink old new fault = sink.failed old ≡ false → sink.failed new ≡ true → fault ≡ WriteFailed

-- that an end failed, or a thread couldn't be started, is answered only where a scenario was accepted before
abbrev pub ComesOnceAccepted : {R : Type 0} → Source R → R → R → Fault → Type 0
ComesOnceAccepted source reader reader' fault =
    (fault ≡ WriteFailed) ⊎ (fault ≡ NoThread)
    → (settings : Settings) × IsRead source reader reader' (Ok settings)
