-- The check of a document as a chain of checks, as the reader makes them. Source: this project.
use Rattle.std.specs.Prelude.{ℕ, Result, Ok, Option, None, Some, Err}
use Rattle.toml.specs.Data.{Members}
use Rattle.bench_types.specs.declared.faults.Fault.{Fault}
use Rattle.scenario.specs.declared.parts.Basics.{Basics}
use Rattle.scenario.specs.declared.parts.Conduct.{Conduct}
use Rattle.scenario.specs.Budgets.{budget_at}
use Rattle.scenario.specs.Fields.{◌>>=◌, only_fields}
use Rattle.scenario.specs.Top.{format_at, nodes_at, keys_at, rounds_at, seed_at, mode_at, peers_at, rotation_at, choice_at, loss_ppm_at, writes_at, top_fields}
use Rattle.scenario.specs.Order.{size_checked}
use Rattle.bench_types.specs.declared.faults.Fault.TheVariants.{NotToml}
use Rattle.bench_types.specs.declared.fields.Field.TheVariants as field
use Rattle.bench_types.specs.declared.fields.TableName.TheVariants as name
use Rattle.scenario.specs.Elements.{only_elements, partition_fields, restart_fields, load_fields}
use Rattle.scenario.specs.inner.Elements.{partitions_at, restarts_at, loads_at}
use Rattle.scenario.specs.Settings.{Settings}

abbrev pub basics_at : Members → Result Basics Fault
basics_at table = do
  format ← format_at table
  nodes ← nodes_at table
  keys ← keys_at table
  _ ← size_checked nodes keys
  rounds ← rounds_at table
  seed ← seed_at table
  Ok (record { format = format; nodes = nodes; keys = keys; rounds = rounds; seed = seed })

abbrev pub conduct_at : ℕ → Members → Result Conduct Fault
conduct_at format table = do
  mode ← mode_at table
  budget ← budget_at format table
  peers ← peers_at table
  rotation ← rotation_at table
  choice ← choice_at table
  loss_ppm ← loss_ppm_at table
  writes ← writes_at table
  Ok (record {
    mode = mode;
    budget = budget;
    peers = peers;
    rotation = rotation;
    choice = choice;
    loss_ppm = loss_ppm;
    writes = writes;
  })

-- no table has a key that the format does not list
abbrev pub unknown_checked : ℕ → Members → Result (Unit {0}) Fault
unknown_checked format table = do
  _ ← only_fields name.Top (top_fields format) table
  _ ← only_elements name.Partition field.Partition partition_fields table
  _ ← only_elements name.Restart field.Restart (restart_fields format) table
  only_elements name.Load field.Load load_fields table

-- the check of a document
abbrev pub checked : Members → Result Settings Fault
checked table = do
  basics ← basics_at table
  conduct ← conduct_at basics.format table
  partitions ← partitions_at basics.nodes table
  restarts ← restarts_at basics.format basics.nodes table
  loads ← loads_at table
  _ ← unknown_checked basics.format table
  Ok (record {
    format = basics.format;
    nodes = basics.nodes;
    keys = basics.keys;
    rounds = basics.rounds;
    seed = basics.seed;
    mode = conduct.mode;
    budget = conduct.budget;
    peers = conduct.peers;
    rotation = conduct.rotation;
    choice = conduct.choice;
    loss_ppm = conduct.loss_ppm;
    writes = conduct.writes;
    partitions = partitions;
    restarts = restarts;
    loads = loads;
  })

abbrev pub document_checked : Option Members → Result Settings Fault
document_checked None = Err NotToml
document_checked (Some table) = checked table
