-- The check of a document, done one check after another, answers the first fault of them all.
-- Serves `read`.
use Rattle.scenario.proofs.Common.{◌≡◌, ◌≢◌, ℕ, ◌+◌, ◌-◌, List, [], ◌∷◌, ◌++◌, Option, None, Some, Result, Ok, Err, IfOk, IfErr, OnOk, refl, sym, ◌∙◌, ap, flat_map, result_err, result_unwrap_or, Data, Members, Fault, OutOfMemory, Field, MOST_ROUNDS, MOST_WRITES}
use Rattle.toml.specs.Data as toml
use Rattle.bench_types.specs.declared.fields.Field.TheVariants as field
use Rattle.bench_types.specs.declared.fields.TableName.TheVariants as name
use Rattle.scenario.specs.declared.parts.Basics.{Basics}
use Rattle.scenario.specs.Budgets.{budget_at}
use Rattle.scenario.specs.inner.Checked.{checked, unknown_checked, basics_at, conduct_at}
use Rattle.scenario.specs.Elements.{array_of, elements_at, forget_at, only_elements, partition_fields, restart_fields, load_fields}
use Rattle.scenario.specs.inner.Elements.{each, ascending, array_at, partition_of, restart_of, load_of, partitions_at, restarts_at, loads_at}
use Rattle.scenario.specs.Fields.{◌>>=◌, value_at, number_of, number_at, only_fields}
use Rattle.scenario.specs.Order.{faults, basics_faults, conduct_faults, first_of, above, ascending_faults, partition_faults, restart_faults, load_faults, array_faults, unknown_faults, format_in, nodes_in, size_checked}
use Rattle.scenario.specs.Settings.{Settings}
use Rattle.scenario.specs.Top.{format_at, nodes_at, keys_at, rounds_at, seed_at, mode_at, peers_at, rotation_at, choice_at, loss_ppm_at, writes_at, top_fields}
use Rattle.scenario.proofs.Steps.{basics_read, elements_found, array_found, number_found_at}

first_of-passed : (own others : List (Option Fault)) → first_of own ≡ None → first_of (own ++ others) ≡ first_of others
first_of-passed [] others e = refl
first_of-passed (None ∷ own) others e = first_of-passed own others e
first_of-passed (Some fault ∷ own) others e = absurd cc

first_of-failed : (own others : List (Option Fault)) (fault : Fault) → first_of own ≡ Some fault → first_of (own ++ others) ≡ Some fault
first_of-failed [] others fault e = absurd cc
first_of-failed (None ∷ own) others fault e = first_of-failed own others fault e
first_of-failed (Some other ∷ own) others fault e = e

-- a check that is itself several, whose value the next ones may use
steps : {A B : Type 0} (r : Result A Fault) (next : A → Result B Fault) (own others : List (Option Fault)) → result_err r ≡ first_of own
    → ((x : A) → r ≡ Ok x → result_err (next x) ≡ first_of others) → result_err (r >>= next) ≡ first_of (own ++ others)
steps (Ok x) next own others is rest = rest x refl ∙ sym (first_of-passed own others (sym is))
steps (Err fault) next own others is rest = sym (first_of-failed own others fault (sym is))

-- a check whose value the next ones may use
step : {A B : Type 0} (r : Result A Fault) (next : A → Result B Fault) (others : List (Option Fault))
    → ((x : A) → r ≡ Ok x → result_err (next x) ≡ first_of others) → result_err (r >>= next) ≡ first_of (result_err r ∷ others)
step (Ok x) next others rest = rest x refl
step (Err fault) next others rest = refl

-- what is made of a value has no fault of its own
made : {A B : Type 0} (r : Result A Fault) (make : A → B) → result_err (r >>= (λ x. Ok (make x))) ≡ result_err r
made (Ok x) make = refl
made (Err fault) make = refl

first_of-each : {A : Type 0} (check : Data → Result A Fault) (element : Data → List (Option Fault))
    → ((value : Data) → result_err (check value) ≡ first_of (element value))
    → (values : List Data) → result_err (each check values) ≡ first_of (flat_map element values)
first_of-each check element is [] = refl
first_of-each check element is (value ∷ others) =
    steps (check value) _ (element value) _ (is value) (λ x _.
    made (each check others) (λ xs. x ∷ xs) ∙ first_of-each check element is others)

first_of-array : {A : Type 0} (f : Field) (check : Data → Result A Fault) (element : Data → List (Option Fault))
    → ((value : Data) → result_err (check value) ≡ first_of (element value))
    → (table : Members) → result_err (array_at f check table) ≡ first_of (array_faults f element table)
first_of-array f check element is table =
    step (elements_at f table) _ _ (λ values found.
    first_of-each check element is values ∙ ap (λ vs. first_of (flat_map element vs)) (sym (elements_found f _ values found)))

first_of-ascending : (f : Field) (low high : ℕ) (values : List Data) → result_err (ascending f low high values) ≡ first_of (ascending_faults f low high values)
first_of-ascending f low high [] = refl
first_of-ascending f low high (value ∷ others) =
    step (number_of f low high value) _ _ (λ n found.
    made (ascending f (n + 1) high others) (λ ns. n ∷ ns)
    ∙ first_of-ascending f (n + 1) high others
    ∙ ap (λ least. first_of (ascending_faults f least high others)) (sym (ap above (number_found_at f low high n value found))))

first_of-partition : (nodes : ℕ) (value : Data) → result_err (partition_of nodes value) ≡ first_of (partition_faults nodes value)
first_of-partition nodes (toml.table members) =
    step (number_at field.PartitionFrom 1 MOST_ROUNDS members) _ _ (λ from is_from.
    rw is_from (
    step (number_at field.PartitionTo from MOST_ROUNDS members) _ _ (λ to _.
    made _ _ ∙
    step (value_at field.PartitionApart members >>= array_of field.PartitionApart) _ _ (λ values found.
    first_of-ascending field.PartitionApart 0 (nodes - 1) values
    ∙ ap (λ vs. first_of (ascending_faults field.PartitionApart 0 (nodes - 1) vs)) (sym (array_found field.PartitionApart _ values found))))))
first_of-partition nodes _ = refl

first_of-restart : (format nodes : ℕ) (value : Data) → result_err (restart_of format nodes value) ≡ first_of (restart_faults format nodes value)
first_of-restart format nodes (toml.table members) =
    step (number_at field.RestartNode 0 (nodes - 1) members) _ _ (λ node _.
    step (number_at field.RestartRound 1 MOST_ROUNDS members) _ _ (λ round _.
    step (number_at field.RestartDown 0 MOST_ROUNDS members) _ _ (λ down _.
    step (forget_at format members) _ _ (λ forget _. refl))))
first_of-restart format nodes _ = refl

first_of-load : (value : Data) → result_err (load_of value) ≡ first_of (load_faults value)
first_of-load (toml.table members) =
    step (number_at field.LoadFrom 1 MOST_ROUNDS members) _ _ (λ from is_from.
    rw is_from (
    step (number_at field.LoadTo from MOST_ROUNDS members) _ _ (λ to _.
    step (number_at field.LoadWrites 0 MOST_WRITES members) _ _ (λ writes _. refl))))
first_of-load _ = refl

first_of-basics : (table : Members) → result_err (basics_at table) ≡ first_of (basics_faults table)
first_of-basics table =
    step (format_at table) _ _ (λ format _.
    step (nodes_at table) _ _ (λ nodes is_nodes.
    step (keys_at table) _ _ (λ keys is_keys.
    rw (is_nodes, is_keys) (
    step (size_checked nodes keys) _ _ (λ _ _.
    step (rounds_at table) _ _ (λ rounds _.
    step (seed_at table) _ _ (λ seed _. refl)))))))

first_of-conduct : (format : ℕ) (table : Members) → result_err (conduct_at format table) ≡ first_of (conduct_faults format table)
first_of-conduct format table =
    step (mode_at table) _ _ (λ mode _.
    step (budget_at format table) _ _ (λ budget _.
    step (peers_at table) _ _ (λ peers _.
    step (rotation_at table) _ _ (λ rotation _.
    step (choice_at table) _ _ (λ choice _.
    step (loss_ppm_at table) _ _ (λ loss_ppm _.
    step (writes_at table) _ _ (λ writes _. refl)))))))

first_of-unknown : (table : Members) → result_err (unknown_checked (format_in table) table) ≡ first_of (unknown_faults table)
first_of-unknown table =
    step (only_fields name.Top (top_fields (format_in table)) table) _ _ (λ _ _.
    step (only_elements name.Partition field.Partition partition_fields table) _ _ (λ _ _.
    step (only_elements name.Restart field.Restart (restart_fields (format_in table)) table) _ _ (λ _ _.
    sole (only_elements name.Load field.Load load_fields table)))) where
      sole : (r : Result (Unit {0}) Fault) → result_err r ≡ first_of (result_err r ∷ [])
      sole (Ok x) = refl
      sole (Err fault) = refl

nodes_known : (table : Members) (basics : Basics) → basics_at table ≡ Ok basics → nodes_in table ≡ basics.nodes
nodes_known table basics all = ap (λ r. result_unwrap_or r 0) (basics_read table basics all).nodes

format_known : (table : Members) (basics : Basics) → basics_at table ≡ Ok basics → format_in table ≡ basics.format
format_known table basics all = ap (λ r. result_unwrap_or r 1) (basics_read table basics all).format

-- the fault of the check is that of the first check that fails
pub first_of-faults : (table : Members) → result_err (checked table) ≡ first_of (faults table)
first_of-faults table =
    steps (basics_at table) _ (basics_faults table) (conduct_faults (format_in table) table ++ arrays) (first_of-basics table) (λ basics is_basics.
    let format = format_known table basics is_basics in
    steps (conduct_at basics.format table) _ (conduct_faults (format_in table) table) arrays (ap (λ n. result_err (conduct_at n table)) (sym format)
    ∙ first_of-conduct (format_in table) table) (λ conduct _.
    let same = nodes_known table basics is_basics in
    steps (partitions_at basics.nodes table) _ (array_faults field.Partition (partition_faults (nodes_in table)) table)
    (array_faults field.Restart (restart_faults (format_in table) (nodes_in table)) table ++ (array_faults field.Load load_faults table ++ unknown_faults
    table)) (first_of-array field.Partition _ (partition_faults (nodes_in table)) (λ value. first_of-partition basics.nodes value
    ∙ ap (λ n. first_of (partition_faults n value)) (sym same)) table) (λ partitions _.
    steps (restarts_at basics.format basics.nodes table) _ (array_faults field.Restart (restart_faults (format_in table) (nodes_in table)) table)
    (array_faults field.Load load_faults table ++ unknown_faults table) (first_of-array field.Restart _ (restart_faults (format_in table) (nodes_in table))
    (λ value. first_of-restart basics.format basics.nodes value ∙ ap (λ n. first_of (restart_faults n basics.nodes value)) (sym format)
    ∙ ap (λ n. first_of (restart_faults (format_in table) n value)) (sym same)) table) (λ restarts _.
    steps (loads_at table) _ (array_faults field.Load load_faults table) (unknown_faults table) (first_of-array field.Load _ load_faults first_of-load table)
    (λ loads _.
    made _ _ ∙ ap (λ n. result_err (unknown_checked n table)) (sym format) ∙ first_of-unknown table))))) where
      arrays : List (Option Fault)
      arrays =
          array_faults field.Partition (partition_faults (nodes_in table)) table
          ++ (array_faults field.Restart (restart_faults (format_in table) (nodes_in table)) table
          ++ (array_faults field.Load load_faults table
          ++ unknown_faults table))

pub first_of-answer : (table : Members) (answer : Result Settings Fault) → IfErr answer (λ fault. fault ≢ OutOfMemory → checked table ≡ Err fault)
    → IfErr answer (λ fault. fault ≢ OutOfMemory → first_of (faults table) ≡ Some fault)
first_of-answer table (Ok s) h = tt
first_of-answer table (Err fault) h = λ other. sym (first_of-faults table) ∙ ap result_err (h other)

-- where the check gives a scenario no check fails
pub no_fault-answer : (table : Members) (answer : Result Settings Fault) → IfOk answer (λ s. checked table ≡ Ok s)
    → OnOk answer (first_of (faults table) ≡ None)
no_fault-answer table (Ok s) h = sym (first_of-faults table) ∙ ap result_err h
no_fault-answer table (Err fault) h = tt
