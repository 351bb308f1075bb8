-- What rounds are written to, after a round and where one came to a fault. Source: this project.
use Rattle.std.specs.Prelude.{◌≡◌, ℕ, ◌⊎◌, List}
use Rattle.bench_types.specs.declared.faults.Fault.{Fault}
use Rattle.bench_types.specs.declared.sinks.Sink.{Ghosts as Sink}
use Rattle.bench_types.specs.Output.{IsWritten, IsWriteFault}
use Rattle.report.specs.Compare.{compare_line}
use Rattle.report.specs.Report.{report_line}
use Rattle.report.specs.Trace.{trace_lines}
use Rattle.runs.specs.declared.outputs.ModeRows.{ModeRows}
use Rattle.runs.specs.declared.outputs.ReportAndTrace.{ReportAndTrace}
use Rattle.played_rounds.specs.calls.RoundView.{RoundView}

-- the lines of a round in the trace
abbrev pub lines_of : RoundView → List ℕ
lines_of p = trace_lines p.row.round p.list.exchanges p.records

-- its format and its ends stay
pub record KeepsTexts {W X : Type 0} (old new : ReportAndTrace W X) : Type 0 where
  pub format : new.format ≡ old.format
  pub writer : new.writer.ghost_name ≡ old.writer.ghost_name
  pub trace : new.trace.ghost_name ≡ old.trace.ghost_name

module _ {W X : Type 0} (sink : Sink W) (sink' : Sink X) (old new : ReportAndTrace W X) where
  -- the lines and the row of a round were written
  pub record WritesTexts (round : RoundView) : Type 0 where
    pub kept : KeepsTexts old new
    pub lines : IsWritten sink' old.trace.now new.trace.now (lines_of round)
    pub row : IsWritten sink old.writer.now new.writer.now (report_line old.format round.row)

  -- writing its lines, or its row behind them, came to this fault
  pub record StopsInTexts (round : RoundView) (fault : Fault) : Type 0 where
    pub kept : KeepsTexts old new
    pub stops : (IsWriteFault sink' old.trace.now new.trace.now (lines_of round) fault × (new.writer.now ≡ old.writer.now))
        ⊎ (IsWritten sink' old.trace.now new.trace.now (lines_of round)
        × IsWriteFault sink old.writer.now new.writer.now (report_line old.format round.row) fault)

-- its format, its mode and its end stay
pub record KeepsRows {W : Type 0} (old new : ModeRows W) : Type 0 where
  pub format : new.format ≡ old.format
  pub mode : new.mode ≡ old.mode
  pub writer : new.writer.ghost_name ≡ old.writer.ghost_name

module _ {W : Type 0} (sink : Sink W) (old new : ModeRows W) where
  -- the row of a round was written
  pub record WritesRow (round : RoundView) : Type 0 where
    pub kept : KeepsRows old new
    pub row : IsWritten sink old.writer.now new.writer.now (compare_line old.format old.mode round.row)

  -- writing its row came to this fault
  pub record StopsInRow (round : RoundView) (fault : Fault) : Type 0 where
    pub kept : KeepsRows old new
    pub stops : IsWriteFault sink old.writer.now new.writer.now (compare_line old.format old.mode round.row) fault
