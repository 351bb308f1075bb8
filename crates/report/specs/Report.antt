-- The lines of the report: its header names the columns, and a row has its number of each column, in plain decimal.
-- Source: this project.
use Rattle.std.specs.Prelude.{ℕ, List, decimal, map, flat_map}
use Rattle.bench_types.specs.declared.rows.Row.{Row}
use Rattle.report.specs.Columns.{rule_of, columns}
use Rattle.report.specs.Line.{line_of}

-- the names of a format's columns
abbrev pub names : ℕ → List (List ℕ)
names format = map (λ c. (rule_of c).name) (columns format)

-- what a row has in them
abbrev pub numbers : ℕ → Row → List (List ℕ)
numbers format row = map (λ c. decimal ((rule_of c).number row)) (columns format)

unfoldable pub report_header_line : ℕ → List ℕ
report_header_line format = line_of (names format)

unfoldable pub report_line : ℕ → Row → List ℕ
report_line format row = line_of (numbers format row)

-- the lines of these rows, one after the other
abbrev pub report_lines : ℕ → List Row → List ℕ
report_lines format rows = flat_map (report_line format) rows
