-- What a scenario says, and the limits that each accepted one keeps. Source: this project.
use Rattle.std.specs.Prelude.{◌≡◌, ℕ, ◌*◌, ◌<◌, ◌≤◌, true, List, length, All}
use Rattle.std.specs.List.Sorted.{IsStrictlyIncreasing}
use Rattle.bench_types.specs.declared.exchanges.Budget.{Budget}
use Rattle.bench_types.specs.declared.exchanges.Budget.TheVariants.{Entries, Bytes}
use Rattle.bench_types.specs.declared.exchanges.Mode.{Mode}
use Rattle.limits.specs.declared.TheConstants.{LEAST_NODES, MOST_NODES, LEAST_KEYS, MOST_KEYS, MOST_ENTRIES, MOST_ROUNDS, MOST_BUDGET, MOST_ENTRY_SIZE, MOST_BUDGET_BYTES, MOST_LOSS, MOST_WRITES, MOST_SEED, MOST_ELEMENTS}
use Rattle.scenario.specs.declared.choices.Peers.{Peers}
use Rattle.scenario.specs.declared.choices.Rotation.{Rotation}
use Rattle.scenario.specs.declared.choices.Choice.{Choice}
use Rattle.scenario.specs.declared.elements.Partition.{Partition}
use Rattle.scenario.specs.declared.elements.Restart.{Restart}
use Rattle.scenario.specs.declared.elements.Load.{Load}

-- the value of each field
pub record Settings : Type 0 where
  pub format : ℕ
  pub nodes : ℕ
  pub keys : ℕ
  pub rounds : ℕ
  pub seed : ℕ
  pub mode : Mode
  pub budget : Budget
  pub peers : Peers
  pub rotation : Rotation
  pub choice : Choice
  pub loss_ppm : ℕ
  pub writes : ℕ
  pub partitions : List Partition
  pub restarts : List Restart
  pub loads : List Load

-- the same scenario under another mode
abbrev pub with_mode : Settings → Mode → Settings
with_mode s m = record s { mode = m }

-- a number from low to high
abbrev pub IsWithin : ℕ → ℕ → ℕ → Type 0
IsWithin low high n = (low ≤ n) × (n ≤ high)

-- the limits of a format's budget: in format 1 it is in entries, in format 2 in bytes
abbrev pub IsBudgetOf : ℕ → Budget → Type 0
IsBudgetOf format (Entries n) = (format ≡ 1) × IsWithin 1 MOST_BUDGET n
IsBudgetOf format (Bytes n) = (format ≡ 2) × IsWithin MOST_ENTRY_SIZE MOST_BUDGET_BYTES n

-- the limits of a partition among so many nodes
pub record IsLawfulPartition (nodes : ℕ) (p : Partition) : Type 0 where
  pub from : IsWithin 1 MOST_ROUNDS p.from
  pub to : IsWithin p.from MOST_ROUNDS p.to
  pub ascending : IsStrictlyIncreasing p.apart
  pub apart : All (λ n. n < nodes) p.apart

-- the limits of a restart among so many nodes: it forgets in format 2 alone
pub record IsLawfulRestart (format nodes : ℕ) (r : Restart) : Type 0 where
  pub node : r.node < nodes
  pub round : IsWithin 1 MOST_ROUNDS r.round
  pub down : r.down ≤ MOST_ROUNDS
  pub forget : r.forget ≡ true → format ≡ 2

-- the limits of a load
pub record IsLawfulLoad (l : Load) : Type 0 where
  pub from : IsWithin 1 MOST_ROUNDS l.from
  pub to : IsWithin l.from MOST_ROUNDS l.to
  pub writes : l.writes ≤ MOST_WRITES

-- the elements of an array: not too many, and each is lawful
pub record AreLawful {X : Type 0} (IsLawfulElement : X → Type 0) (xs : List X) : Type 0 where
  pub few : length xs ≤ MOST_ELEMENTS
  pub each : All IsLawfulElement xs

-- the limits of an accepted scenario
pub record IsLawfulScenario (s : Settings) : Type 0 where
  pub format : IsWithin 1 2 s.format
  pub nodes : IsWithin LEAST_NODES MOST_NODES s.nodes
  pub keys : IsWithin LEAST_KEYS MOST_KEYS s.keys
  pub entries : s.nodes * s.nodes * s.keys ≤ MOST_ENTRIES
  pub rounds : IsWithin 1 MOST_ROUNDS s.rounds
  pub seed : s.seed ≤ MOST_SEED
  pub budget : IsBudgetOf s.format s.budget
  pub loss_ppm : s.loss_ppm ≤ MOST_LOSS
  pub writes : s.writes ≤ MOST_WRITES
  pub partitions : AreLawful (IsLawfulPartition s.nodes) s.partitions
  pub restarts : AreLawful (IsLawfulRestart s.format s.nodes) s.restarts
  pub loads : AreLawful IsLawfulLoad s.loads
