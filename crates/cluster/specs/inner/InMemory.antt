-- The parts of what a round begins with, of tables and histories in memory: `table` gives the table of a value, and
-- `kept` what contracts see of histories. Source: this project.
use Rattle.std.specs.Prelude.{◌≡◌, ℕ, ◌+◌, ◌-◌, ◌<◌, ◌≤◌, List, length, map}
use Rattle.limits.specs.declared.TheConstants.{MOST_ROUNDS}
use Rattle.model.specs.Table.{Table, with_own_writes}
use Rattle.model.specs.calls.OwnerListView.{list_of_owner}
use Rattle.round_plan.specs.Writes.{count_before, own_writes}
use Rattle.round_plan.specs.calls.Writes.{AreWritesOf}
use Rattle.round_plan.specs.declared.owners.OwnWrite.{OwnWrite}
use Rattle.round_histories.specs.Histories.{HistoriesView, own_list, StandsAmong}
use Rattle.scenario.specs.Settings.{Settings}
use Rattle.cluster.specs.Rounds.{begun}
use Rattle.cluster.specs.calls.Clusters.{HaveEnded, TablesStand}
use Rattle.cluster.specs.calls.Standing.{IsOwner}
use Rattle.cluster.specs.inner.Steps.{begun_table, HasWritten, HasRestarted, IsNodeBefore}

-- what a round begins with: of one table, and of what its writes leave, and of all
abbrev pub IsBegun : {T : Type 0} → (T → Table) → Settings → ℕ → ℕ → T → T → Type 0
IsBegun table s round n old new = table new ≡ begun_table s round n (table old)

abbrev pub IsWritten : {T : Type 0} → (T → Table) → Settings → ℕ → ℕ → T → T → Type 0
IsWritten table s round n old new =
    table new ≡ with_own_writes (table old) (own_writes s n round (count_before s n round))

abbrev pub AreBegun : {T : Type 0} → (T → Table) → Settings → ℕ → List T → List T → Type 0
AreBegun table s round old new = map table new ≡ begun s round (map table old)

module _ {T K : Type 0} (table : T → Table) (kept : K → HistoriesView) where
  -- one node's table beside its list, after a round, and after the restarts that it begins with
  abbrev pub IsOwnerIn : Settings → ℕ → ℕ → T → K → Type 0
  IsOwnerIn s round n t k = IsOwner s round n (table t) (list_of_owner (kept k).lists n)

  abbrev pub IsRestartedIn : Settings → ℕ → ℕ → T → K → Type 0
  IsRestartedIn s round n t k = HasRestarted s round n (table t) (list_of_owner (kept k).lists n)

  -- these writes of the next round were made in a node's table, and added to its list
  abbrev pub WritesIn : List OwnWrite → T → T → K → K → Type 0
  WritesIn writes old new k k' =
      HasWritten ((kept k).rounds + 1) writes (table old) (table new) (own_list (table old) (kept k).lists)
      (own_list (table old) (kept k').lists)

-- a node that has restarted may make these writes of a round
pub record MayWriteNow {T K : Type 0} (table : T → Table) (kept : K → HistoriesView) (s : Settings) (round n : ℕ) (t : T)
    (k : K) (writes : List OwnWrite) : Type 0 where
  pub node : n < s.nodes
  pub one_each : length (kept k).lists ≡ s.nodes
  pub ended : HaveEnded s (round - 1) (kept k)
  pub restarted : IsRestartedIn table kept s round n t k
  pub made : AreWritesOf s n round (length (list_of_owner (kept k).lists n).current) writes

-- the tables and histories with which a round begins: as many rounds have ended, and what stands among the lists fits
pub record HasBegun {T K : Type 0} (table : T → Table) (kept : K → HistoriesView) (Fits : K → Table → Type 0)
    (s : Settings) (round : ℕ) (old new : List T) (k : K) : Type 0 where
  pub standing : TablesStand table kept s round new k
  pub tables : AreBegun table s round old new
  pub ended : HaveEnded s round (kept k)
  pub fits : (t : Table) → StandsAmong (kept k) t → Fits k t

-- a node's table beside the histories, of which the round before one that a run may have has ended
pub record IsBeforeRound {T K : Type 0} (table : T → Table) (kept : K → HistoriesView) (s : Settings)
    (round n : ℕ) (t : T) (k : K) : Type 0 where
  pub first : 1 ≤ round
  pub last : round ≤ MOST_ROUNDS
  pub node : IsNodeBefore s round n (table t) (kept k).lists
  pub ended : HaveEnded s (round - 1) (kept k)
