-- A step of a simulation: its cluster is taken out, plays a round and is put back. Source: this project.
use Rattle.std.specs.Prelude.{◌≡◌, ℕ, ◌+◌, true, Err, Ok, Result, Some}
use Rattle.bench_types.specs.declared.entries.Entry.{Entry}
use Rattle.bench_types.specs.declared.faults.Fault.{Fault}
use Rattle.model.specs.Table.{Table}
use Rattle.round_histories.specs.Histories.{HistoriesView}
use Rattle.cluster.specs.declared.clusters.Cluster.{Cluster}
use Rattle.cluster.specs.calls.Clusters.{IsBefore}
use Rattle.played_rounds.specs.calls.RoundView.{RoundView}
use Rattle.simulation.specs.calls.Simulation.{MayStep, SimView}
use Rattle.simulation.specs.inner.Insides.{simulation_of}

-- the cluster of a simulation, which is broken without it, may play the next round
pub record HasTakenOut {T K : Type 0} (table : T → Table) (kept : K → HistoriesView) (May : ℕ → ℕ → Entry → Type 0)
    (old new : SimView T) (c : Cluster T K) : Type 0 where
  pub may : MayStep old
  pub before : IsBefore table kept May new.settings (new.rounds_done + 1) c
  pub tables : old.tables ≡ c.tables.items
  pub broken : new.broken ≡ true
  pub settings : new.settings ≡ old.settings
  pub rounds_done : new.rounds_done ≡ old.rounds_done

-- the cluster of a round that was played is put back, or the fault of one that failed comes through
abbrev pub IsPutBack : {T K : Type 0} → (K → HistoriesView) → SimView T → SimView T → Result (Cluster T K × RoundView) Fault
    → Result RoundView Fault → Type 0
IsPutBack kept old new (Ok p) result =
    (result ≡ Ok p.1) × (new ≡ simulation_of kept old.settings (Some p.0) (old.rounds_done + 1))
IsPutBack kept old new (Err e) result = (result ≡ Err e) × (new ≡ old)
