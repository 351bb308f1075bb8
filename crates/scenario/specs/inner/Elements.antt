-- What the arrays of a document come to, one check after another. Source: this project.
use Rattle.std.specs.Prelude.{ℕ, ◌+◌, ◌-◌, List, [], ◌∷◌, Result, Ok}
use Rattle.toml.specs.Data.{Data, Members}
use Rattle.bench_types.specs.declared.faults.Fault.{Fault}
use Rattle.bench_types.specs.declared.fields.Field.{Field}
use Rattle.bench_types.specs.declared.fields.Field.TheVariants as field
use Rattle.limits.specs.declared.TheConstants.{MOST_ROUNDS, MOST_WRITES}
use Rattle.scenario.specs.declared.elements.Partition.{Partition}
use Rattle.scenario.specs.declared.elements.Restart.{Restart}
use Rattle.scenario.specs.declared.elements.Load.{Load}
use Rattle.scenario.specs.Fields.{◌>>=◌, value_at, number_of, number_at}
use Rattle.scenario.specs.Elements.{array_of, as_table, elements_at, forget_at}

-- what each element comes to, one after another
abbrev pub each : {A : Type 0} → (Data → Result A Fault) → List Data → Result (List A) Fault
each check [] = Ok []
each check (value ∷ others) = check value >>= (λ x. each check others >>= (λ xs. Ok (x ∷ xs)))

-- the numbers of an array from low to high, each above the one before
abbrev pub ascending : Field → ℕ → ℕ → List Data → Result (List ℕ) Fault
ascending f low high [] = Ok []
ascending f low high (value ∷ others) =
    number_of f low high value >>= (λ n. ascending f (n + 1) high others >>= (λ ns. Ok (n ∷ ns)))

-- the nodes of one side of a partition, among so many
abbrev pub apart_at : ℕ → Members → Result (List ℕ) Fault
apart_at nodes table =
    value_at field.PartitionApart table >>= array_of field.PartitionApart
    >>= ascending field.PartitionApart 0 (nodes - 1)

abbrev pub partition_of : ℕ → Data → Result Partition Fault
partition_of nodes value = do
  table ← as_table field.Partition value
  from ← number_at field.PartitionFrom 1 MOST_ROUNDS table
  to ← number_at field.PartitionTo from MOST_ROUNDS table
  apart ← apart_at nodes table
  Ok (record { from = from; to = to; apart = apart })

-- a restart of a format, among so many nodes
abbrev pub restart_of : ℕ → ℕ → Data → Result Restart Fault
restart_of format nodes value = do
  table ← as_table field.Restart value
  node ← number_at field.RestartNode 0 (nodes - 1) table
  round ← number_at field.RestartRound 1 MOST_ROUNDS table
  down ← number_at field.RestartDown 0 MOST_ROUNDS table
  forget ← forget_at format table
  Ok (record { node = node; round = round; down = down; forget = forget })

abbrev pub load_of : Data → Result Load Fault
load_of value = do
  table ← as_table field.Load value
  from ← number_at field.LoadFrom 1 MOST_ROUNDS table
  to ← number_at field.LoadTo from MOST_ROUNDS table
  writes ← number_at field.LoadWrites 0 MOST_WRITES table
  Ok (record { from = from; to = to; writes = writes })

-- an array of tables, each of which comes to what `check` says
abbrev pub array_at : {A : Type 0} → Field → (Data → Result A Fault) → Members → Result (List A) Fault
array_at f check table = elements_at f table >>= each check

abbrev pub partitions_at : ℕ → Members → Result (List Partition) Fault
partitions_at nodes = array_at field.Partition (partition_of nodes)

abbrev pub restarts_at : ℕ → ℕ → Members → Result (List Restart) Fault
restarts_at format nodes = array_at field.Restart (restart_of format nodes)

abbrev pub loads_at : Members → Result (List Load) Fault
loads_at = array_at field.Load load_of
