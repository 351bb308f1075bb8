-- The comparison of the modes: the header, and for each mode, in order, a line for each round of the scenario under
-- that mode. `source` and `sink` have the words of the two ends; `old` and `new` are states before and after the call.
-- Source: this project.
use Rattle.std.specs.Prelude.{◌≡◌, ℕ, ◌+◌, ◌⊎◌, ◌++◌, ◌∷◌, List, Ok, flat_map}
use Rattle.bench_types.specs.declared.exchanges.Mode.{Mode}
use Rattle.bench_types.specs.Mode.{modes}
use Rattle.bench_types.specs.declared.faults.Fault.{Fault}
use Rattle.bench_types.specs.declared.sinks.Sink.{Ghosts as Sink}
use Rattle.bench_types.specs.declared.sources.Source.{Ghosts as Source}
use Rattle.report.specs.Compare.{compare_header_line, compare_line, compare_lines}
use Rattle.bench_types.specs.Output.{IsWritten, IsWriteFault}
use Rattle.scenario.specs.Settings.{Settings, with_mode}
use Rattle.played_rounds.specs.Outcomes.{row_in}
use Rattle.runs.specs.Inputs.{IsRead, IsInputFault}
use Rattle.runs.specs.Reports.{rows_upto}
use Rattle.runs.specs.Runs.{IsFaultAfter, IsFaultInRounds}

-- the lines of the first so many rounds of a scenario
abbrev pub lines_upto : Settings → ℕ → List ℕ
lines_upto s rounds = compare_lines s.format s.mode (rows_upto s rounds)

-- the lines of all its rounds under a mode
abbrev pub lines_under : Settings → Mode → List ℕ
lines_under s mode = lines_upto (with_mode s mode) s.rounds

-- the comparison of these modes in turn, and of all
abbrev pub comparison_of : Settings → List Mode → List ℕ
comparison_of s ms = (compare_header_line s.format) ++ flat_map (lines_under s) ms

unfoldable pub comparison_text : Settings → List ℕ
comparison_text s = comparison_of s modes

-- the text `whole` and the lines of the first so many rounds of a scenario were written, and then the next round or its
-- line came to this fault
abbrev pub IsFaultInLines : {W : Type 0} → Sink W → W → W → List ℕ → Settings → ℕ → Fault → Type 0
IsFaultInLines sink old new whole s workers fault =
    IsFaultInRounds s workers fault
    (λ rounds. IsWritten sink old new (whole ++ lines_upto s rounds))
    (λ rounds. IsFaultAfter sink old new (whole ++ lines_upto s rounds)
    (compare_line s.format s.mode (row_in s (rounds + 1))) fault)

module _ {W : Type 0} (sink : Sink W) (old new : W) (s : Settings) (workers : ℕ) (fault : Fault) where
  -- the header and all lines of the first modes were written, and then those of the next one came to this fault
  pub record IsFaultInModes : Type 0 where
    pub done : List Mode
    pub next : Mode
    pub rest : List Mode
    pub order : modes ≡ done ++ (next ∷ rest)
    pub stops : IsFaultInLines sink old new (comparison_of s done) (with_mode s next) workers fault

  -- the fault of a comparison behind its reading: at the header, or behind it
  abbrev pub IsComparingFault : Type 0
  IsComparingFault = IsWriteFault sink old new (compare_header_line s.format) fault ⊎ IsFaultInModes

module _ {R W : Type 0} (source : Source R) (reader reader' : R) (sink : Sink W) (old new : W) where
  -- a scenario was read, and its comparison was written; its own mode has no effect on it
  pub record IsCompared : Type 0 where
    pub settings : Settings
    pub read : IsRead source reader reader' (Ok settings)
    pub written : IsWritten sink old new (comparison_text settings)
    pub own_mode : (mode : Mode) → comparison_text (with_mode settings mode) ≡ comparison_text settings

  -- reading a scenario came to this fault, and nothing was written
  pub record IsNothingCompared (fault : Fault) : Type 0 where
    pub input : IsInputFault source reader reader' fault
    pub same : new ≡ old

  -- a scenario was read, and then its comparison with so many workers came to this fault
  pub record IsComparisonStopped (workers : ℕ) (fault : Fault) : Type 0 where
    pub settings : Settings
    pub read : IsRead source reader reader' (Ok settings)
    pub written : IsComparingFault sink old new settings workers fault

  -- the fault of a comparison
  abbrev pub IsCompareFault : ℕ → Fault → Type 0
  IsCompareFault workers fault = IsNothingCompared fault ⊎ IsComparisonStopped workers fault
