-- What contracts see of a round that was carried out. Source: this project.
use Rattle.std.specs.Prelude.{List}
use Rattle.bench_types.specs.declared.exchanges.Record.{Record}
use Rattle.bench_types.specs.declared.rows.Figures.{Figures}
use Rattle.bench_types.specs.declared.rows.Row.{Row}
use Rattle.model.specs.RoundLists.{RoundListView}

pub record RoundView : Type 0 where
  pub row : Row
  pub list : RoundListView
  pub records : List Record
  pub figures : Figures
