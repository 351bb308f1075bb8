-- The columns of the report: its header, its rows and the comparison of the modes go by them. Each format has the
-- columns that came with it or before, in the order of all. Source: this project.
use Rattle.std.specs.Prelude.{ℕ, List, [], ◌∷◌, codes, nat_le, filter}
use Rattle.bench_types.specs.declared.rows.Row.{Row}
use Rattle.report.specs.declared.columns.Column.{Column}
use Rattle.report.specs.declared.columns.Column.TheVariants as column

-- the name of a column, its number in a row, and the first format that has it
pub record ColumnRule : Type 0 where
  pub name : List ℕ
  pub number : Row → ℕ
  pub since : ℕ

abbrev pub rule_of : Column → ColumnRule
rule_of column.Round = record { name = codes "round"; number = λ row. row.round; since = 1 }
rule_of column.Exchanges = record { name = codes "exchanges"; number = λ row. row.exchanges; since = 1 }
rule_of column.Unreached = record { name = codes "unreached"; number = λ row. row.unreached; since = 1 }
rule_of column.Lost = record { name = codes "lost"; number = λ row. row.lost; since = 1 }
rule_of column.Entries = record { name = codes "entries"; number = λ row. row.entries; since = 1 }
rule_of column.Cut = record { name = codes "cut"; number = λ row. row.cut; since = 1 }
rule_of column.Stale = record { name = codes "stale"; number = λ row. row.stale; since = 1 }
rule_of column.Greatest = record { name = codes "greatest"; number = λ row. row.greatest; since = 1 }
rule_of column.Leftover = record { name = codes "leftover"; number = λ row. row.leftover; since = 2 }

-- all columns, in order
abbrev pub all_columns : List Column
all_columns =
    column.Round ∷ column.Exchanges ∷ column.Unreached ∷ column.Lost
    ∷ column.Entries ∷ column.Cut ∷ column.Stale ∷ column.Greatest ∷ column.Leftover ∷ []

-- the columns of a format
unfoldable pub columns : ℕ → List Column
columns format = filter (λ c. nat_le (rule_of c).since format) all_columns
