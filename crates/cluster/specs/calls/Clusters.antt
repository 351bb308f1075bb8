-- A cluster between two rounds, and one of which a round has begun: `table` gives the table of a value in memory, and
-- `kept` what contracts see of histories. Source: this project.
use Rattle.std.specs.Prelude.{◌≡◌, ℕ, ◌-◌, ◌≤◌, List, map}
use Rattle.bench_types.specs.declared.entries.Entry.{Entry}
use Rattle.limits.specs.declared.TheConstants.{MOST_ROUNDS}
use Rattle.model.specs.Table.{Table}
use Rattle.round_histories.specs.Histories.{HistoriesView, StandsAmong}
use Rattle.round_plan.specs.Plan.{round_list_of}
use Rattle.scenario.specs.Settings.{IsLawfulScenario, Settings}
use Rattle.cluster.specs.Rounds.{begun, tables_after}
use Rattle.cluster.specs.calls.Standing.{MayWriteAll, StandAfterRound}
use Rattle.cluster.specs.declared.clusters.Cluster.{Cluster}
use Rattle.cluster.specs.declared.clusters.UnderWay.{UnderWay}
use Rattle.cluster.specs.calls.Plans.{IsDrawnAfter, MayDraw}

-- histories of a scenario's run, of which so many rounds have ended
pub record HaveEnded (s : Settings) (round : ℕ) (h : HistoriesView) : Type 0 where
  pub keys : h.keys ≡ s.keys
  pub rounds : h.rounds ≡ round

-- a round of a scenario, of which tables may hold all that is written
pub record IsRoundOf (May : ℕ → ℕ → Entry → Type 0) (s : Settings) (round : ℕ) : Type 0 where
  pub first : 1 ≤ round
  pub last : round ≤ MOST_ROUNDS
  pub within : round ≤ s.rounds
  pub may_write : MayWriteAll May s

-- all nodes' tables beside the lists, after a round
abbrev pub TablesStand : {T K : Type 0} → (T → Table) → (K → HistoriesView) → Settings → ℕ → List T → K → Type 0
TablesStand table kept s round ts k = StandAfterRound s round (map table ts) (kept k).lists

-- what the nodes hold
abbrev pub tables_of : {T K : Type 0} → (T → Table) → Cluster T K → List Table
tables_of table c = map table c.tables.items

-- a cluster after a round: what its nodes hold and have written is what the definition gives, its histories have ended
-- the round, and what is drawn is that of the round or of the next one
pub record IsAfterRound {T K : Type 0} (table : T → Table) (kept : K → HistoriesView) (s : Settings) (round : ℕ)
    (c : Cluster T K) : Type 0 where
  pub standing : StandAfterRound s round (tables_of table c) (kept c.histories).lists
  pub tables : tables_of table c ≡ tables_after s round
  pub ended : HaveEnded s round (kept c.histories)
  pub drawn : IsDrawnAfter s round c.drawn

-- it may begin this round of a scenario
pub record IsBefore {T K : Type 0} (table : T → Table) (kept : K → HistoriesView) (May : ℕ → ℕ → Entry → Type 0)
    (s : Settings) (round : ℕ) (c : Cluster T K) : Type 0 where
  pub lawful : IsLawfulScenario s
  pub of_run : IsRoundOf May s round
  pub before : IsAfterRound table kept s (round - 1) c

-- one that has begun it: of all nodes the restarts and the writes are made
pub record IsUnderWay {T K : Type 0} (table : T → Table) (kept : K → HistoriesView) (Fits : K → Table → Type 0)
    (s : Settings) (round : ℕ) (u : UnderWay T K) : Type 0 where
  pub lawful : IsLawfulScenario s
  pub scenario_is : u.scenario.now ≡ s
  pub round_is : u.round ≡ round
  pub standing : TablesStand table kept s round u.tables.items u.histories
  pub tables : map table u.tables.items ≡ begun s round (tables_after s (round - 1))
  pub ended : HaveEnded s round (kept u.histories)
  pub fits : (t : Table) → StandsAmong (kept u.histories) t → Fits u.histories t
  pub list : u.begun.list ≡ round_list_of s round
  pub may_draw : MayDraw s round u.begun.words u.begun.counts
