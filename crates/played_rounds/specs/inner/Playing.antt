-- The end of a round. Source: this project.
use Rattle.std.specs.Prelude.{◌≡◌, ℕ, List, Ok, Result}
use Rattle.bench_types.specs.declared.faults.Fault.{Fault}
use Rattle.bench_types.specs.declared.exchanges.Record.{Record}
use Rattle.model.specs.RoundLists.{RoundListView}
use Rattle.model.specs.Table.{Table}
use Rattle.round_histories.specs.Histories.{AreFiguresCounted, HistoriesView}
use Rattle.cluster.specs.declared.clusters.Cluster.{Cluster}
use Rattle.cluster.specs.declared.plans.Drawn.{Drawn}
use Rattle.played_rounds.specs.calls.Outcomes.{played_with}
use Rattle.played_rounds.specs.calls.RoundView.{RoundView}

-- the exchanges of a round are done, with these tables and records, and it has ended: its figures were counted, and
-- what was drawn is kept
pub record HasEnded {T K : Type 0} (table : T → Table) (kept : K → HistoriesView) (round : ℕ) (list : RoundListView)
    (tables : List T) (records : List Record) (histories : K) (made : Result Drawn Fault) (new : Cluster T K)
    (result : RoundView) : Type 0 where
  pub counted : AreFiguresCounted table kept histories tables
      (record { figures = result.figures; tables = new.tables; histories = new.histories })
  pub told : result ≡ played_with round list records result.figures
  pub drawn : made ≡ Ok new.drawn
