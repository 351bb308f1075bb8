-- The keys at which the tables of a scenario have its fields. Source: this project.
use Rattle.std.specs.Prelude.{ℕ, List, codes}
use Rattle.bench_types.specs.declared.fields.Field.{Field}
use Rattle.bench_types.specs.declared.fields.Field.TheVariants as field

-- the key at which a table has the field
abbrev pub field_name : Field → List ℕ
field_name field.Format = codes "format"
field_name field.Nodes = codes "nodes"
field_name field.Keys = codes "keys"
field_name field.Rounds = codes "rounds"
field_name field.Seed = codes "seed"
field_name field.Mode = codes "mode"
field_name field.Budget = codes "budget"
field_name field.BudgetBytes = codes "budget_bytes"
field_name field.Peers = codes "peers"
field_name field.Rotation = codes "rotation"
field_name field.Choice = codes "choice"
field_name field.LossPpm = codes "loss_ppm"
field_name field.Writes = codes "writes"
field_name field.Partition = codes "partition"
field_name field.Restart = codes "restart"
field_name field.Load = codes "load"
field_name field.PartitionFrom = codes "from"
field_name field.PartitionTo = codes "to"
field_name field.PartitionApart = codes "apart"
field_name field.RestartNode = codes "node"
field_name field.RestartRound = codes "round"
field_name field.RestartDown = codes "down"
field_name field.RestartForget = codes "forget"
field_name field.LoadFrom = codes "from"
field_name field.LoadTo = codes "to"
field_name field.LoadWrites = codes "writes"
