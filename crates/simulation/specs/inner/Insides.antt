-- What lies in a simulation. Source: this project.
use Rattle.std.specs.Prelude.{◌≡◌, ℕ, ◌≤◌, Bool, false, List, [], map, Option, Some, None, IfSome, is_none, refl}
use Rattle.std.specs.Coded.{Coded, code_by, coded×, coded_ℕ, coded_bool, coded_list}
use Rattle.bench_types.specs.declared.entries.Entry.{Entry}
use Rattle.scenario.specs.contracts.scenarios.Scenario as scenario
use Rattle.owner_writes.specs.inner.Codes.{list_code}
use Rattle.round_histories.specs.Histories.{HistoriesView}
use Rattle.model.specs.Table.{Table}
use Rattle.scenario.specs.Settings.{Settings}
use Rattle.model.specs.calls.OwnerListView.{OwnerListView}
use Rattle.cluster.specs.calls.Standing.{MayWriteAll, StandAfterRound}
use Rattle.cluster.specs.declared.clusters.Cluster.{Cluster}
use Rattle.cluster.specs.calls.Plans.{IsDrawnAfter}
use Rattle.cluster.specs.calls.Clusters.{HaveEnded}
use Rattle.simulation.specs.calls.Simulation.{AreTablesAfter, SimView}

abbrev pub simulation_code : {T : Type 0} → Coded T → Coded (SimView T)
simulation_code {T} table_code =
    code_by (Settings × (ℕ × (Bool × (List T × List OwnerListView)))) (coded× (scenario.the_row).coded (coded× coded_ℕ (coded× coded_bool (coded× (coded_list table_code) (coded_list list_code))))) (λ s. (s.settings, (s.rounds_done, (s.broken, (s.tables, s.lists))))) (λ p. record { settings = p.0; rounds_done = p.1.0; broken = p.1.1.0; tables = p.1.1.1.0; lists = p.1.1.1.1 }) (λ _. refl)

-- what the nodes hold, and the lists of their writes
abbrev pub tables_held : {T K : Type 0} → Option (Cluster T K) → List T
tables_held (Some c) = c.tables.items
tables_held None = []

abbrev pub lists_held : {T K : Type 0} → (K → HistoriesView) → Option (Cluster T K) → List OwnerListView
lists_held kept (Some c) = (kept c.histories).lists
lists_held kept None = []

abbrev pub simulation_of : {T K : Type 0} → (K → HistoriesView) → Settings → Option (Cluster T K) → ℕ
    → SimView T
simulation_of kept s cluster done = record {
  settings = s;
  rounds_done = done;
  broken = is_none cluster;
  tables = tables_held cluster;
  lists = lists_held kept cluster;
}

-- after so many rounds: the tables of the definition, and each owner's list beside them
pub record IsSimulation {T : Type 0} (table : T → Table) (v : SimView T) : Type 0 where
  pub within : v.rounds_done ≤ v.settings.rounds
  pub standing : v.broken ≡ false → StandAfterRound v.settings v.rounds_done (map table v.tables) v.lists
  pub tables : AreTablesAfter table v v.tables

-- and what lies in it: histories of which so many rounds have ended, and what is drawn after the last of them; the
-- tables may hold what the run writes
pub record IsInside {T K : Type 0} (table : T → Table) (kept : K → HistoriesView) (May : ℕ → ℕ → Entry → Type 0)
    (s : Settings) (cluster : Option (Cluster T K)) (done : ℕ) : Type 0 where
  pub simulation : IsSimulation table (simulation_of kept s cluster done)
  pub ended : IfSome cluster (λ c. HaveEnded s done (kept c.histories))
  pub drawn : IfSome cluster (λ c. IsDrawnAfter s done c.drawn)
  pub may_write : MayWriteAll May s
