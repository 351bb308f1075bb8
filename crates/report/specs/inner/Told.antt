-- What a line tells of a format's columns. Source: this project.
use Rattle.std.specs.Prelude.{ℕ, List, decimal, map}
use Rattle.report.specs.Columns.{rule_of, columns}
use Rattle.report.specs.declared.columns.Column.{Column}
use Rattle.report.specs.declared.columns.Told.{Told}
use Rattle.report.specs.declared.columns.Told.TheVariants.{Names, Numbers}

abbrev pub text_told : Told → Column → List ℕ
text_told Names = λ c. (rule_of c).name
text_told (Numbers row) = λ c. decimal ((rule_of c).number row.now)

abbrev pub texts_told : Told → ℕ → List (List ℕ)
texts_told told format = map (text_told told) (columns format)
