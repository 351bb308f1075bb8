-- What the check of a text comes to, said of all checks at once and of the document as it stands:
-- the answer is the fault of the first check that fails, and where none fails, each field's value is
-- the one that the document has at its key. Source: this project.
use Rattle.std.specs.Prelude.{◌≡◌, ℕ, ◌+◌, ◌-◌, ◌⊎◌, pos, Bool, true, false, List, [], ◌∷◌, ◌++◌, map, Option, None, Some, Result, Ok, Err, if◌then◌else◌, ◌*◌, nat_le}
use Rattle.std.specs.List.{AllZip, flat_map}
use Rattle.std.specs.Result.{result_err, result_unwrap_or}
use Rattle.toml.specs.Data as toml
use Rattle.toml.specs.Data.{Data, integer, string, boolean, Items, Members, get_member}
use Rattle.bench_types.specs.declared.exchanges.Budget.{Budget}
use Rattle.bench_types.specs.declared.exchanges.Budget.TheVariants.{Entries, Bytes}
use Rattle.bench_types.specs.declared.faults.Fault.{Fault}
use Rattle.bench_types.specs.declared.faults.Fault.TheVariants.{NotToml, TooLarge}
use Rattle.bench_types.specs.declared.fields.Field.{Field}
use Rattle.bench_types.specs.declared.fields.Field.TheVariants as field
use Rattle.bench_types.specs.declared.fields.TableName.TheVariants as name
use Rattle.limits.specs.declared.TheConstants.{MOST_ROUNDS, MOST_WRITES, MOST_ENTRIES}
use Rattle.scenario.specs.declared.elements.Partition.{Partition}
use Rattle.scenario.specs.declared.elements.Restart.{Restart}
use Rattle.scenario.specs.declared.elements.Load.{Load}
use Rattle.scenario.specs.Budgets.{budget_at}
use Rattle.scenario.specs.Elements.{has_generations, list_of, array_of, as_table, forget_at, values_at, elements_at, elements_have_only, only_elements, partition_fields, restart_fields, load_fields}
use Rattle.bench_types.specs.Field.{field_name}
use Rattle.scenario.specs.Fields.{◌>>=◌, value_at, number_of, number_at, has_only, only_fields}
use Rattle.scenario.specs.Settings.{Settings}
use Rattle.scenario.specs.Top.{format_at, nodes_at, keys_at, rounds_at, seed_at, mode_at, peers_at, rotation_at, choice_at, loss_ppm_at, writes_at, top_fields}
use Rattle.scenario.specs.Words.{peers_of, rotation_of, choice_of}
use Rattle.bench_types.specs.Mode.{mode_named}
use Rattle.std.specs.Str.{is_utf8}
use Rattle.toml.specs.Parse.{parse_document}

-- the document that some bytes write: they have to be UTF-8, and to follow the grammar of TOML
abbrev pub document_of : List ℕ → Option Members
document_of bytes = if is_utf8 bytes then parse_document bytes else None

-- the entries that all tables can hold: one of each owner and key in the table of each node
abbrev pub size_checked : ℕ → ℕ → Result (Unit {0}) Fault
size_checked nodes keys = if nat_le (nodes * nodes * keys) MOST_ENTRIES then Ok tt else Err TooLarge

-- the fault of the size, where both numbers are lawful
abbrev pub size_fault : Result ℕ Fault → Result ℕ Fault → Option Fault
size_fault (Err _) _ = None
size_fault (Ok nodes) (Err _) = None
size_fault (Ok nodes) (Ok keys) = result_err (size_checked nodes keys)

-- the members of an element, and none where it is no table
abbrev pub members_of : Data → Members
members_of (toml.table table) = table
members_of _ = toml.no_members

-- the fault of a last round, where the first one is lawful
abbrev pub last_fault : Result ℕ Fault → Field → Members → Option Fault
last_fault (Err _) f table = None
last_fault (Ok from) f table = result_err (number_at f from MOST_ROUNDS table)

-- the least number that may follow a value in an ascending array
abbrev pub above : Data → ℕ
above (integer (pos n)) = n + 1
above _ = 0

-- the fault of each value of an ascending array
abbrev pub ascending_faults : Field → ℕ → ℕ → List Data → List (Option Fault)
ascending_faults f low high [] = []
ascending_faults f low high (value ∷ others) =
    result_err (number_of f low high value) ∷ ascending_faults f (above value) high others

-- each check of a partition among so many nodes, in order
abbrev pub partition_faults : ℕ → Data → List (Option Fault)
partition_faults nodes value =
    let table = members_of value in
    result_err (as_table field.Partition value)
    ∷ result_err (number_at field.PartitionFrom 1 MOST_ROUNDS table)
    ∷ last_fault (number_at field.PartitionFrom 1 MOST_ROUNDS table) field.PartitionTo table
    ∷ result_err (value_at field.PartitionApart table >>= array_of field.PartitionApart)
    ∷ ascending_faults field.PartitionApart 0 (nodes - 1) (values_at field.PartitionApart table)

-- each check of a restart of a format among so many nodes, in order
abbrev pub restart_faults : ℕ → ℕ → Data → List (Option Fault)
restart_faults format nodes value =
    let table = members_of value in
    result_err (as_table field.Restart value)
    ∷ result_err (number_at field.RestartNode 0 (nodes - 1) table)
    ∷ result_err (number_at field.RestartRound 1 MOST_ROUNDS table)
    ∷ result_err (number_at field.RestartDown 0 MOST_ROUNDS table)
    ∷ result_err (forget_at format table)
    ∷ []

-- each check of a load, in order
abbrev pub load_faults : Data → List (Option Fault)
load_faults value =
    let table = members_of value in
    result_err (as_table field.Load value)
    ∷ result_err (number_at field.LoadFrom 1 MOST_ROUNDS table)
    ∷ last_fault (number_at field.LoadFrom 1 MOST_ROUNDS table) field.LoadTo table
    ∷ result_err (number_at field.LoadWrites 0 MOST_WRITES table)
    ∷ []

-- each check of an array of tables, in order: of the array itself, and then of each element
abbrev pub array_faults : Field → (Data → List (Option Fault)) → Members → List (Option Fault)
array_faults f element table = result_err (elements_at f table) ∷ flat_map element (values_at f table)

-- the format of the document
abbrev pub format_in : Members → ℕ
format_in table = result_unwrap_or (format_at table) 1

-- the nodes of the document
abbrev pub nodes_in : Members → ℕ
nodes_in table = result_unwrap_or (nodes_at table) 0

-- each check that no table has another key, in order
abbrev pub unknown_faults : Members → List (Option Fault)
unknown_faults table =
    result_err (only_fields name.Top (top_fields (format_in table)) table)
    ∷ result_err (only_elements name.Partition field.Partition partition_fields table)
    ∷ result_err (only_elements name.Restart field.Restart (restart_fields (format_in table)) table)
    ∷ result_err (only_elements name.Load field.Load load_fields table)
    ∷ []

-- each check of how large the run is, in order
abbrev pub basics_faults : Members → List (Option Fault)
basics_faults table =
    result_err (format_at table)
    ∷ result_err (nodes_at table)
    ∷ result_err (keys_at table)
    ∷ size_fault (nodes_at table) (keys_at table)
    ∷ result_err (rounds_at table)
    ∷ result_err (seed_at table)
    ∷ []

-- each check of its rules, in order
abbrev pub conduct_faults : ℕ → Members → List (Option Fault)
conduct_faults format table =
    result_err (mode_at table)
    ∷ result_err (budget_at format table)
    ∷ result_err (peers_at table)
    ∷ result_err (rotation_at table)
    ∷ result_err (choice_at table)
    ∷ result_err (loss_ppm_at table)
    ∷ result_err (writes_at table)
    ∷ []

-- each check of a document, in order, with the fault that it comes to where it fails
abbrev pub faults : Members → List (Option Fault)
faults table =
    basics_faults table
    ++ (conduct_faults (format_in table) table
    ++ (array_faults field.Partition (partition_faults (nodes_in table)) table
    ++ (array_faults field.Restart (restart_faults (format_in table) (nodes_in table)) table
    ++ (array_faults field.Load load_faults table
    ++ unknown_faults table))))

abbrev pub first_of : List (Option Fault) → Option Fault
first_of [] = None
first_of (None ∷ others) = first_of others
first_of (Some fault ∷ others) = Some fault

-- the first fault of a text
abbrev pub first_fault : Option Members → Option Fault
first_fault None = Some NotToml
first_fault (Some table) = first_of (faults table)

-- the document has this number at the field's key
abbrev pub HasNumber : Members → Field → ℕ → Type 0
HasNumber table f n = get_member (field_name f) table ≡ Some (integer (pos n))

-- the document has this at the field's key, or nothing where it is false
abbrev pub HasFlag : Members → Field → Bool → Type 0
HasFlag table f flag =
    (get_member (field_name f) table ≡ Some (boolean flag))
    ⊎ ((get_member (field_name f) table ≡ None) × (flag ≡ false))

-- the document has the budget's number at the key of its field
abbrev pub HasBudget : Members → Budget → Type 0
HasBudget table (Entries n) = HasNumber table field.Budget n
HasBudget table (Bytes n) = HasNumber table field.BudgetBytes n

-- the document has a word at the field's key that stands for this
abbrev pub HasWord : {A : Type 0} → Members → Field → (List ℕ → Option A) → A → Type 0
HasWord table f meaning x =
    (word : List ℕ) × (get_member (field_name f) table ≡ Some (string word)) × (meaning word ≡ Some x)

-- the document has an array of these numbers at the field's key
abbrev pub HasNumbers : Members → Field → List ℕ → Type 0
HasNumbers table f ns =
    (items : Items) × (get_member (field_name f) table ≡ Some (toml.array items))
    × (list_of items ≡ map (λ n. integer (pos n)) ns)

-- the document has an array at the field's key, with a value for each of these; where there is none,
-- the field is absent or the array is empty
abbrev pub HasElements : {X : Type 0} → Members → Field → (Data → X → Type 0) → List X → Type 0
HasElements table f SaysElement xs =
    ((get_member (field_name f) table ≡ None) × (xs ≡ []))
    ⊎ ((items : Items) × (get_member (field_name f) table ≡ Some (toml.array items))
    × AllZip SaysElement (list_of items) xs)

-- the partition is what the value says
pub record SaysPartition (value : Data) (p : Partition) : Type 0 where
  pub is_table : value ≡ toml.table (members_of value)
  pub from : HasNumber (members_of value) field.PartitionFrom p.from
  pub to : HasNumber (members_of value) field.PartitionTo p.to
  pub apart : HasNumbers (members_of value) field.PartitionApart p.apart

-- the restart is what the value says in a format; without generations none forgets
pub record SaysRestart (format : ℕ) (value : Data) (r : Restart) : Type 0 where
  pub is_table : value ≡ toml.table (members_of value)
  pub node : HasNumber (members_of value) field.RestartNode r.node
  pub round : HasNumber (members_of value) field.RestartRound r.round
  pub down : HasNumber (members_of value) field.RestartDown r.down
  pub forget : has_generations format ≡ true → HasFlag (members_of value) field.RestartForget r.forget
  pub keeps : has_generations format ≡ false → r.forget ≡ false

-- the load is what the value says
pub record SaysLoad (value : Data) (l : Load) : Type 0 where
  pub is_table : value ≡ toml.table (members_of value)
  pub from : HasNumber (members_of value) field.LoadFrom l.from
  pub to : HasNumber (members_of value) field.LoadTo l.to
  pub writes : HasNumber (members_of value) field.LoadWrites l.writes

-- the scenario is what the document says, and the document says nothing else
pub record Says (table : Members) (s : Settings) : Type 0 where
  pub format : HasNumber table field.Format s.format
  pub nodes : HasNumber table field.Nodes s.nodes
  pub keys : HasNumber table field.Keys s.keys
  pub rounds : HasNumber table field.Rounds s.rounds
  pub seed : HasNumber table field.Seed s.seed
  pub mode : HasWord table field.Mode mode_named s.mode
  pub budget : HasBudget table s.budget
  pub peers : HasWord table field.Peers peers_of s.peers
  pub rotation : HasWord table field.Rotation rotation_of s.rotation
  pub choice : HasWord table field.Choice choice_of s.choice
  pub loss_ppm : HasNumber table field.LossPpm s.loss_ppm
  pub writes : HasNumber table field.Writes s.writes
  pub partitions : HasElements table field.Partition SaysPartition s.partitions
  pub restarts : HasElements table field.Restart (SaysRestart s.format) s.restarts
  pub loads : HasElements table field.Load SaysLoad s.loads
  pub others : has_only (top_fields s.format) table ≡ true
  pub others_of_partitions : elements_have_only field.Partition partition_fields table ≡ true
  pub others_of_restarts : elements_have_only field.Restart (restart_fields s.format) table ≡ true
  pub others_of_loads : elements_have_only field.Load load_fields table ≡ true
