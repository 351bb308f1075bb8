-- The row of a round in the report. Source: this project.
use Rattle.std.specs.Prelude.{ℕ, ◌+◌, Bool, true, false, List, length, count_by, sum_by}
use Rattle.bench_types.specs.declared.exchanges.Fate.{Fate}
use Rattle.bench_types.specs.declared.exchanges.Fate.TheVariants as fate
use Rattle.bench_types.specs.declared.exchanges.Record.{Record}
use Rattle.bench_types.specs.declared.rows.Figures.{Figures}
use Rattle.bench_types.specs.declared.rows.Row.{Row}
use Rattle.model.specs.RoundLists.{RoundListView}

-- whether an exchange lost a message
abbrev pub has_lost : Fate → Bool
has_lost fate.Ok = false
has_lost fate.Lost1 = true
has_lost fate.Lost2 = true
has_lost fate.Lost3 = true

abbrev pub lost_count : List Record → ℕ
lost_count records = count_by (λ r. has_lost r.fate) records

abbrev pub entry_count : List Record → ℕ
entry_count records = sum_by (λ r. r.back + r.forth) records

abbrev pub cut_total : List Record → ℕ
cut_total records = sum_by (λ r. r.back_cut + r.forth_cut) records

abbrev pub row_of : ℕ → RoundListView → List Record → Figures → Row
row_of round plan records figures = record {
  round = round;
  exchanges = length plan.exchanges;
  unreached = plan.unreached;
  lost = lost_count records;
  entries = entry_count records;
  cut = cut_total records;
  stale = figures.stale;
  greatest = figures.greatest;
  leftover = figures.leftover;
}
