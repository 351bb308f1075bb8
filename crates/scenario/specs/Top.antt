-- The fields of the document itself, and the values that each of them takes. Source: this project.
use Rattle.std.specs.Prelude.{ℕ, List, [], ◌∷◌, Result}
use Rattle.toml.specs.Data.{Members}
use Rattle.bench_types.specs.declared.exchanges.Mode.{Mode}
use Rattle.bench_types.specs.declared.faults.Fault.{Fault}
use Rattle.bench_types.specs.declared.fields.Field.{Field}
use Rattle.bench_types.specs.declared.fields.Field.TheVariants as field
use Rattle.limits.specs.declared.TheConstants.{LEAST_NODES, MOST_NODES, LEAST_KEYS, MOST_KEYS, MOST_ROUNDS, MOST_LOSS, MOST_WRITES, MOST_SEED}
use Rattle.scenario.specs.declared.choices.Peers.{Peers}
use Rattle.scenario.specs.declared.choices.Rotation.{Rotation}
use Rattle.scenario.specs.declared.choices.Choice.{Choice}
use Rattle.scenario.specs.Budgets.{budget_field}
use Rattle.scenario.specs.Fields.{number_at}
use Rattle.scenario.specs.Words.{word_at, peers_of, rotation_of, choice_of}
use Rattle.bench_types.specs.Mode.{mode_named}

abbrev pub format_at : Members → Result ℕ Fault
format_at = number_at field.Format 1 2

abbrev pub nodes_at : Members → Result ℕ Fault
nodes_at = number_at field.Nodes LEAST_NODES MOST_NODES

abbrev pub keys_at : Members → Result ℕ Fault
keys_at = number_at field.Keys LEAST_KEYS MOST_KEYS

abbrev pub rounds_at : Members → Result ℕ Fault
rounds_at = number_at field.Rounds 1 MOST_ROUNDS

abbrev pub seed_at : Members → Result ℕ Fault
seed_at = number_at field.Seed 0 MOST_SEED

abbrev pub mode_at : Members → Result Mode Fault
mode_at = word_at field.Mode mode_named

abbrev pub peers_at : Members → Result Peers Fault
peers_at = word_at field.Peers peers_of

abbrev pub rotation_at : Members → Result Rotation Fault
rotation_at = word_at field.Rotation rotation_of

abbrev pub choice_at : Members → Result Choice Fault
choice_at = word_at field.Choice choice_of

abbrev pub loss_ppm_at : Members → Result ℕ Fault
loss_ppm_at = number_at field.LossPpm 0 MOST_LOSS

abbrev pub writes_at : Members → Result ℕ Fault
writes_at = number_at field.Writes 0 MOST_WRITES

-- the fields that a format has, in order, the arrays last
abbrev pub top_fields : ℕ → List Field
top_fields format =
    field.Format
    ∷ field.Nodes
    ∷ field.Keys
    ∷ field.Rounds
    ∷ field.Seed
    ∷ field.Mode
    ∷ budget_field format
    ∷ field.Peers
    ∷ field.Rotation
    ∷ field.Choice
    ∷ field.LossPpm
    ∷ field.Writes
    ∷ field.Partition
    ∷ field.Restart
    ∷ field.Load
    ∷ []
