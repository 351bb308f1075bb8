-- The texts of a scenario. Its report is the header, and a line for each round from the first. Its trace is the
-- header, and a line for each exchange, by round and then in the order of the round's list. Source: this project.
use Rattle.std.specs.Prelude.{ℕ, ◌++◌, List, map, flat_map}
use Rattle.std.specs.List.{range_with_len}
use Rattle.bench_types.specs.declared.rows.Row.{Row}
use Rattle.report.specs.Report.{report_header_line, report_lines}
use Rattle.report.specs.Trace.{trace_header_line, trace_lines}
use Rattle.round_plan.specs.Plan.{round_list_of}
use Rattle.scenario.specs.Settings.{Settings}
use Rattle.cluster.specs.Rounds.{records_in}
use Rattle.played_rounds.specs.Outcomes.{row_in}

-- the rows of the first so many rounds
abbrev pub rows_upto : Settings → ℕ → List Row
rows_upto s rounds = map (row_in s) (range_with_len 1 rounds)

-- the report after so many rounds, and the whole of it
abbrev pub report_upto : Settings → ℕ → List ℕ
report_upto s rounds = (report_header_line s.format) ++ report_lines s.format (rows_upto s rounds)

unfoldable pub report_text : Settings → List ℕ
report_text s = report_upto s s.rounds

-- the trace's lines of a round, and of the first so many rounds
abbrev pub trace_in : Settings → ℕ → List ℕ
trace_in s round = trace_lines round (round_list_of s round).exchanges (records_in s round)

abbrev pub traces_upto : Settings → ℕ → List ℕ
traces_upto s rounds = flat_map (trace_in s) (range_with_len 1 rounds)

-- the trace after so many rounds, and the whole of it
abbrev pub trace_upto : Settings → ℕ → List ℕ
trace_upto s rounds = trace_header_line ++ traces_upto s rounds

unfoldable pub trace_text : Settings → List ℕ
trace_text s = trace_upto s s.rounds
