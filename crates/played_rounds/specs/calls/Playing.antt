-- A round that a cluster plays. Source: this project.
use Rattle.std.specs.Prelude.{◌≡◌, ℕ}
use Rattle.bench_types.specs.declared.entries.Entry.{Entry}
use Rattle.model.specs.Table.{Table}
use Rattle.round_histories.specs.Histories.{HistoriesView}
use Rattle.scenario.specs.Settings.{Settings}
use Rattle.cluster.specs.calls.Clusters.{IsAfterRound, IsBefore}
use Rattle.cluster.specs.declared.clusters.Cluster.{Cluster}
use Rattle.played_rounds.specs.calls.Outcomes.{played_of}
use Rattle.played_rounds.specs.calls.RoundView.{RoundView}
use Rattle.played_rounds.specs.declared.playing.NextRound.{NextRound}

-- a cluster may play this round of a scenario
abbrev pub MayPlay : {T K G : Type 0} → (T → Table) → (K → HistoriesView) → (ℕ → ℕ → Entry → Type 0)
    → NextRound T K G → Type 0
MayPlay table kept May next = IsBefore table kept May next.scenario.now next.round next.cluster

-- it was played: this is what it came to
pub record IsPlayed {T K : Type 0} (table : T → Table) (kept : K → HistoriesView) (s : Settings) (round : ℕ)
    (new : Cluster T K) (result : RoundView) : Type 0 where
  pub after : IsAfterRound table kept s round new
  pub played : result ≡ played_of s round

abbrev pub Plays : {T K G : Type 0} → (T → Table) → (K → HistoriesView) → NextRound T K G → Cluster T K → RoundView
    → Type 0
Plays table kept next new played = IsPlayed table kept next.scenario.now next.round new played
