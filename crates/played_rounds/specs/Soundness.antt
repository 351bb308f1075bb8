-- What holds of the tables along every run: each entry that a node holds is a write of its owner, with its generation,
-- version, key, value and round; in the scuttle modes no copy has a gap; no copy's greatest mark goes down but by a
-- restart of the copy's holder, and within one generation no key's. Source: the LADIS 2008 paper; restarts and
-- generations are this project's.
use Rattle.std.specs.Prelude.{◌≡◌, ℕ, ◌-◌, ◌≤◌, false, List, length}
use Rattle.model.specs.Table.{Table}
use Rattle.model.specs.Candidates.{IsScuttleMode}
use Rattle.round_plan.specs.Outages.{restarts_now}
use Rattle.round_plan.specs.Plan.{round_list_of}
use Rattle.round_plan.specs.Writes.{written_upto}
use Rattle.scenario.specs.Settings.{Settings}
use Rattle.model.specs.Clusters.{AreCopiesOf, HaveNoGap, NoMarksFall}
use Rattle.model.specs.Copies.{WritesBy}
use Rattle.model.specs.Tables.{table_of_node}
use Rattle.model.specs.Folds.{tables_before}
use Rattle.model.specs.ExchangeLaws.{NoMarkFalls}
use Rattle.cluster.specs.Rounds.{begun, rules_of, tables_after}

-- the writes of all owners up to a round, of all their generations
abbrev pub writes_by : Settings → ℕ → WritesBy
writes_by s round owner = written_upto s owner round

-- these tables may stand in a round once its writes are made
pub record AreSound (s : Settings) (round : ℕ) (ts : List Table) : Type 0 where
  pub copies : AreCopiesOf (writes_by s round) s.nodes s.keys ts
  pub no_gap : IsScuttleMode s.mode → HaveNoGap ts

-- a mark goes down only in a node that restarts in this round
abbrev pub OnlyRestartsLowerMarks : Settings → ℕ → List Table → List Table → Type 0
OnlyRestartsLowerMarks s round old new =
    (n : ℕ) → restarts_now s n round ≡ false → NoMarkFalls (table_of_node old n) (table_of_node new n)

-- the tables within a round: once it has begun, and after so many of its exchanges
abbrev pub tables_within : Settings → ℕ → ℕ → List Table
tables_within s round i =
    tables_before (rules_of s) (begun s round (tables_after s (round - 1))) (round_list_of s round).exchanges i

-- and so at each moment of a run
pub record IsSoundRun (s : Settings) : Type 0 where
  pub after : (round : ℕ) → AreSound s round (tables_after s round)
  pub within : (round i : ℕ) → 1 ≤ round → AreSound s round (tables_within s round i)
  pub begins : (round : ℕ) → 1 ≤ round
      → OnlyRestartsLowerMarks s round (tables_after s (round - 1)) (tables_within s round 0)
  pub exchanges : (round i j : ℕ) → 1 ≤ round → i ≤ j → NoMarksFall (tables_within s round i) (tables_within s round j)
  pub ends : (round : ℕ) → 1 ≤ round
      → tables_within s round (length (round_list_of s round).exchanges) ≡ tables_after s round
