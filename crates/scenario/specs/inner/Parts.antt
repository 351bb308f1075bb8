-- What the parts of a scenario keep. Source: this project.
use Rattle.std.specs.Prelude.{ℕ, ◌*◌, ◌≤◌}
use Rattle.limits.specs.declared.TheConstants.{LEAST_NODES, MOST_NODES, LEAST_KEYS, MOST_KEYS, MOST_ENTRIES, MOST_ROUNDS, MOST_LOSS, MOST_WRITES, MOST_SEED}
use Rattle.scenario.specs.declared.parts.Basics.{Basics}
use Rattle.scenario.specs.declared.parts.Conduct.{Conduct}
use Rattle.scenario.specs.Settings.{IsWithin, IsBudgetOf}

-- the limits of how large a run is
pub record IsLawfulBasics (b : Basics) : Type 0 where
  pub format : IsWithin 1 2 b.format
  pub nodes : IsWithin LEAST_NODES MOST_NODES b.nodes
  pub keys : IsWithin LEAST_KEYS MOST_KEYS b.keys
  pub entries : b.nodes * b.nodes * b.keys ≤ MOST_ENTRIES
  pub rounds : IsWithin 1 MOST_ROUNDS b.rounds
  pub seed : b.seed ≤ MOST_SEED

-- the limits of a format's rules
pub record IsLawfulConduct (format : ℕ) (c : Conduct) : Type 0 where
  pub budget : IsBudgetOf format c.budget
  pub loss_ppm : c.loss_ppm ≤ MOST_LOSS
  pub writes : c.writes ≤ MOST_WRITES
