-- The lines of a comparison of the modes: its header names the columns, and each line has the name of a mode and
-- then what a row of the report has. Source: this project.
use Rattle.std.specs.Prelude.{ℕ, List, ◌∷◌, codes, flat_map}
use Rattle.bench_types.specs.declared.exchanges.Mode.{Mode}
use Rattle.bench_types.specs.declared.rows.Row.{Row}
use Rattle.bench_types.specs.Mode.{mode_name}
use Rattle.report.specs.Line.{line_of}
use Rattle.report.specs.Report.{names, numbers}

unfoldable pub compare_header_line : ℕ → List ℕ
compare_header_line format = line_of (codes "mode" ∷ names format)

unfoldable pub compare_line : ℕ → Mode → Row → List ℕ
compare_line format mode row = line_of (mode_name mode ∷ numbers format row)

-- the lines of these rows under a mode, one after the other
abbrev pub compare_lines : ℕ → Mode → List Row → List ℕ
compare_lines format mode rows = flat_map (compare_line format mode) rows
