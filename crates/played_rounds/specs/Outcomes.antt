-- What a round comes to: its figures and its row. Source: this project.
use Rattle.std.specs.Prelude.{ℕ}
use Rattle.bench_types.specs.declared.rows.Figures.{Figures}
use Rattle.bench_types.specs.declared.rows.Row.{Row}
use Rattle.round_plan.specs.Plan.{round_list_of}
use Rattle.scenario.specs.Settings.{Settings}
use Rattle.model.specs.Figures.{figures_of}
use Rattle.cluster.specs.Rounds.{tables_after, records_in}
use Rattle.played_rounds.specs.Lists.{lists_after}
use Rattle.played_rounds.specs.Rows.{row_of}

-- the figures at the end of a round, and its row
abbrev pub figures_in : Settings → ℕ → Figures
figures_in s round = figures_of round (tables_after s round) (lists_after s round)

abbrev pub row_in : Settings → ℕ → Row
row_in s round = row_of round (round_list_of s round) (records_in s round) (figures_in s round)
