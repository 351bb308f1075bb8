-- All that is told of a round that was played. Source: this project.
use Rattle.std.specs.Prelude.{ℕ, List}
use Rattle.bench_types.specs.declared.exchanges.Record.{Record}
use Rattle.bench_types.specs.declared.rows.Figures.{Figures}
use Rattle.model.specs.RoundLists.{RoundListView}
use Rattle.round_plan.specs.Plan.{round_list_of}
use Rattle.scenario.specs.Settings.{Settings}
use Rattle.played_rounds.specs.calls.RoundView.{RoundView}
use Rattle.cluster.specs.Rounds.{records_in}
use Rattle.played_rounds.specs.Rows.{row_of}
use Rattle.played_rounds.specs.Outcomes.{figures_in}

-- a round that came to these records and figures
abbrev pub played_with : ℕ → RoundListView → List Record → Figures → RoundView
played_with round plan records figures = record {
  row = row_of round plan records figures;
  list = plan;
  records = records;
  figures = figures;
}

-- what a round answers: by the definitions
abbrev pub played_of : Settings → ℕ → RoundView
played_of s round = played_with round (round_list_of s round) (records_in s round) (figures_in s round)
