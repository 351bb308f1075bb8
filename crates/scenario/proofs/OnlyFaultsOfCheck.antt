-- The check of a document comes to no other faults than those of reading a scenario.
-- Serves `read`.
use Rattle.scenario.proofs.Common.{◌≡◌, ◌≢◌, ℕ, ◌+◌, ◌-◌, ◌*◌, pos, negsuc, Bool, true, false, ◌&&◌, nat_le, cond, List, [], ◌∷◌, length, Option, None, Some, Result, Ok, Err, IfErr, subst, Data, integer, string, boolean, Members, get_member, Fault, OutOfMemory, TooLarge, OutOfRange, BudgetTooSmall, Field, TableName, LEAST_NODES, MOST_NODES, LEAST_KEYS, MOST_KEYS, MOST_ENTRIES, MOST_ROUNDS, MOST_BUDGET, MOST_ENTRY_SIZE, MOST_BUDGET_BYTES, MOST_LOSS, MOST_WRITES, MOST_SEED, MOST_ELEMENTS, field_name, mode_named}
use Rattle.toml.specs.Data as toml
use Rattle.bench_types.specs.declared.fields.Field.TheVariants as field
use Rattle.bench_types.specs.declared.fields.TableName.TheVariants as name
use Rattle.scenario.specs.Budgets.{is_in_entries, entries_at, is_too_small, bytes_of, bytes_at, budget_at}
use Rattle.scenario.specs.inner.Checked.{checked, unknown_checked, basics_at, conduct_at}
use Rattle.scenario.specs.Elements.{has_generations, array_of, as_table, few, elements_of, elements_at, forget_at, elements_have_only, only_elements, partition_fields, restart_fields, load_fields}
use Rattle.scenario.specs.inner.Elements.{each, ascending, apart_at, array_at, partition_of, restart_of, load_of, partitions_at, restarts_at, loads_at}
use Rattle.scenario.specs.Fields.{◌>>=◌, value_at, number_at, number_of, present, text_of, flag_of, flag_at, no_other_field, only_fields}
use Rattle.scenario.specs.Order.{size_checked}
use Rattle.scenario.specs.CheckFault.{IsFaultOfCheck}
use Rattle.scenario.specs.Settings.{Settings}
use Rattle.scenario.specs.Top.{format_at, nodes_at, keys_at, rounds_at, seed_at, mode_at, peers_at, rotation_at, choice_at, loss_ppm_at, writes_at, top_fields}
use Rattle.scenario.specs.Words.{or_out_of_range, word_at, peers_of, rotation_of, choice_of}

abbrev OnlyFaultsOfCheck : {A : Type 0} → Result A Fault → Type 0
OnlyFaultsOfCheck r = IfErr r IsFaultOfCheck

next : {A B : Type 0} (r : Result A Fault) (f : A → Result B Fault) → OnlyFaultsOfCheck r → ((x : A) → OnlyFaultsOfCheck (f x)) → OnlyFaultsOfCheck (r >>= f)
next (Ok x) f here more = more x
next (Err fault) f here more = here

of_present : (f : Field) (o : Option Data) → OnlyFaultsOfCheck (present f o)
of_present f None = tt
of_present f (Some value) = tt

of_number : (f : Field) (low high : ℕ) (value : Data) → OnlyFaultsOfCheck (number_of f low high value)
of_number f low high (integer (pos n)) = in_range (nat_le low n && nat_le n high) where
  in_range : (b : Bool) → OnlyFaultsOfCheck (cond b (Ok n) (Err (OutOfRange f)))
  in_range true = tt
  in_range false = tt
of_number f low high (integer (negsuc n)) = tt
of_number f low high _ = tt

at_number : (f : Field) (low high : ℕ) (table : Members) → OnlyFaultsOfCheck (number_at f low high table)
at_number f low high table = next (value_at f table) _ (of_present f _) (of_number f low high)

of_text : (f : Field) (value : Data) → OnlyFaultsOfCheck (text_of f value)
of_text f (string text) = tt
of_text f _ = tt

of_taken : {A : Type 0} (f : Field) (o : Option A) → OnlyFaultsOfCheck (or_out_of_range f o)
of_taken f None = tt
of_taken f (Some x) = tt

at_word : {A : Type 0} (f : Field) (meaning : List ℕ → Option A) (table : Members) → OnlyFaultsOfCheck (word_at f meaning table)
at_word f meaning table =
    next (value_at f table >>= text_of f) _ (next (value_at f table) _ (of_present f _) (of_text f)) (λ word. of_taken f (meaning word))

abbrev fits : Bool → Result (Unit {0}) Fault
fits b = cond b (Ok tt) (Err TooLarge)

of_fits : (b : Bool) → OnlyFaultsOfCheck (fits b)
of_fits true = tt
of_fits false = tt

of_size : (nodes keys : ℕ) → OnlyFaultsOfCheck (size_checked nodes keys)
of_size nodes keys = of_fits (nat_le (nodes * nodes * keys) MOST_ENTRIES)

of_array : (f : Field) (value : Data) → OnlyFaultsOfCheck (array_of f value)
of_array f (toml.array items) = tt
of_array f _ = tt

of_table : (f : Field) (value : Data) → OnlyFaultsOfCheck (as_table f value)
of_table f (toml.table _) = tt
of_table f _ = tt

of_few : (f : Field) (values : List Data) → OnlyFaultsOfCheck (few f values)
of_few f values = not_more (nat_le (length values) MOST_ELEMENTS) where
  not_more : (b : Bool) → OnlyFaultsOfCheck (cond b (Ok values) (Err (OutOfRange f)))
  not_more true = tt
  not_more false = tt

of_elements : (f : Field) (o : Option Data) → OnlyFaultsOfCheck (elements_of f o)
of_elements f None = tt
of_elements f (Some value) = next (array_of f value) _ (of_array f value) (of_few f)

of_each : {A : Type 0} (check : Data → Result A Fault) → ((value : Data) → OnlyFaultsOfCheck (check value)) → (values : List Data) → OnlyFaultsOfCheck (each check values)
of_each check element [] = tt
of_each check element (value ∷ others) =
    next (check value) _ (element value) (λ x. next (each check others) _ (of_each check element others) (λ _. tt))

of_ascending : (f : Field) (low high : ℕ) (values : List Data) → OnlyFaultsOfCheck (ascending f low high values)
of_ascending f low high [] = tt
of_ascending f low high (value ∷ others) =
    next (number_of f low high value) _ (of_number f low high value) (λ n. next (ascending f (n + 1) high others) _ (of_ascending f (n + 1) high others) (λ _. tt))

at_array : {A : Type 0} (f : Field) (check : Data → Result A Fault) (table : Members) → ((value : Data) → OnlyFaultsOfCheck (check value)) → OnlyFaultsOfCheck (array_at f check table)
at_array f check table element = next (elements_at f table) _ (of_elements f (get_member (field_name f) table)) (of_each check element)

of_partition : (nodes : ℕ) (value : Data) → OnlyFaultsOfCheck (partition_of nodes value)
of_partition nodes value =
    next (as_table field.Partition value) _ (of_table field.Partition value) (λ members.
    next (number_at field.PartitionFrom 1 MOST_ROUNDS members) _ (at_number field.PartitionFrom 1 MOST_ROUNDS members) (λ from.
    next (number_at field.PartitionTo from MOST_ROUNDS members) _ (at_number field.PartitionTo from MOST_ROUNDS members) (λ to.
    next (apart_at nodes members) _ (of_apart members) (λ apart. tt)))) where
      of_apart : (members : Members) → OnlyFaultsOfCheck (apart_at nodes members)
      of_apart members =
          next (value_at field.PartitionApart members >>= array_of field.PartitionApart) _
          (next (value_at field.PartitionApart members) _ (of_present field.PartitionApart _) (of_array field.PartitionApart))
          (of_ascending field.PartitionApart 0 (nodes - 1))

of_flag : (f : Field) (o : Option Data) → OnlyFaultsOfCheck (flag_of f o)
of_flag f None = tt
of_flag f (Some (boolean flag)) = tt
of_flag f (Some _) = tt

of_forget : (format : ℕ) (table : Members) → OnlyFaultsOfCheck (forget_at format table)
of_forget format table = either (has_generations format) where
  either : (b : Bool) → OnlyFaultsOfCheck (cond b (flag_at field.RestartForget table) (Ok false))
  either true = of_flag field.RestartForget (get_member (field_name field.RestartForget) table)
  either false = tt

of_restart : (format nodes : ℕ) (value : Data) → OnlyFaultsOfCheck (restart_of format nodes value)
of_restart format nodes value =
    next (as_table field.Restart value) _ (of_table field.Restart value) (λ members.
    next (number_at field.RestartNode 0 (nodes - 1) members) _ (at_number field.RestartNode 0 (nodes - 1) members) (λ node.
    next (number_at field.RestartRound 1 MOST_ROUNDS members) _ (at_number field.RestartRound 1 MOST_ROUNDS members) (λ round.
    next (number_at field.RestartDown 0 MOST_ROUNDS members) _ (at_number field.RestartDown 0 MOST_ROUNDS members) (λ down.
    next (forget_at format members) _ (of_forget format members) (λ forget. tt)))))

of_load : (value : Data) → OnlyFaultsOfCheck (load_of value)
of_load value =
    next (as_table field.Load value) _ (of_table field.Load value) (λ members.
    next (number_at field.LoadFrom 1 MOST_ROUNDS members) _ (at_number field.LoadFrom 1 MOST_ROUNDS members) (λ from.
    next (number_at field.LoadTo from MOST_ROUNDS members) _ (at_number field.LoadTo from MOST_ROUNDS members) (λ to.
    next (number_at field.LoadWrites 0 MOST_WRITES members) _ (at_number field.LoadWrites 0 MOST_WRITES members) (λ writes. tt))))

of_only : (name : TableName) (b : Bool) → OnlyFaultsOfCheck (no_other_field name b)
of_only name true = tt
of_only name false = tt

of_unknown : (format : ℕ) (table : Members) → OnlyFaultsOfCheck (unknown_checked format table)
of_unknown format table =
    next (only_fields name.Top (top_fields format) table) _ (of_only name.Top _) (λ _.
    next (only_elements name.Partition field.Partition partition_fields table) _ (of_only name.Partition _) (λ _.
    next (only_elements name.Restart field.Restart (restart_fields format) table) _ (of_only name.Restart _) (λ _.
    of_only name.Load (elements_have_only field.Load load_fields table))))

of_basics : (table : Members) → OnlyFaultsOfCheck (basics_at table)
of_basics table =
    next (format_at table) _ (at_number field.Format 1 2 table) (λ format.
    next (nodes_at table) _ (at_number field.Nodes LEAST_NODES MOST_NODES table) (λ nodes.
    next (keys_at table) _ (at_number field.Keys LEAST_KEYS MOST_KEYS table) (λ keys.
    next (size_checked nodes keys) _ (of_size nodes keys) (λ _.
    next (rounds_at table) _ (at_number field.Rounds 1 MOST_ROUNDS table) (λ rounds.
    next (seed_at table) _ (at_number field.Seed 0 MOST_SEED table) (λ seed. tt))))))

of_bytes : (value : Data) → OnlyFaultsOfCheck (bytes_of value)
of_bytes value = small (is_too_small value) where
  small : (b : Bool) → OnlyFaultsOfCheck (cond b (Err BudgetTooSmall) (number_of field.BudgetBytes MOST_ENTRY_SIZE MOST_BUDGET_BYTES value))
  small true = tt
  small false = of_number field.BudgetBytes MOST_ENTRY_SIZE MOST_BUDGET_BYTES value

of_budget : (format : ℕ) (table : Members) → OnlyFaultsOfCheck (budget_at format table)
of_budget format table = either (is_in_entries format) where
  either : (b : Bool) → OnlyFaultsOfCheck (cond b (entries_at table) (bytes_at table))
  either true = next (number_at field.Budget 1 MOST_BUDGET table) _ (at_number field.Budget 1 MOST_BUDGET table) (λ n. tt)
  either false =
      next (value_at field.BudgetBytes table >>= bytes_of) _
      (next (value_at field.BudgetBytes table) _ (of_present field.BudgetBytes _) of_bytes) (λ n. tt)

of_conduct : (format : ℕ) (table : Members) → OnlyFaultsOfCheck (conduct_at format table)
of_conduct format table =
    next (mode_at table) _ (at_word field.Mode mode_named table) (λ mode.
    next (budget_at format table) _ (of_budget format table) (λ budget.
    next (peers_at table) _ (at_word field.Peers peers_of table) (λ peers.
    next (rotation_at table) _ (at_word field.Rotation rotation_of table) (λ rotation.
    next (choice_at table) _ (at_word field.Choice choice_of table) (λ choice.
    next (loss_ppm_at table) _ (at_number field.LossPpm 0 MOST_LOSS table) (λ loss_ppm.
    next (writes_at table) _ (at_number field.Writes 0 MOST_WRITES table) (λ writes. tt)))))))

of_checked : (table : Members) → OnlyFaultsOfCheck (checked table)
of_checked table =
    next (basics_at table) _ (of_basics table) (λ basics.
    next (conduct_at basics.format table) _ (of_conduct basics.format table) (λ conduct.
    next (partitions_at basics.nodes table) _ (at_array field.Partition (partition_of basics.nodes) table (of_partition basics.nodes)) (λ partitions.
    next (restarts_at basics.format basics.nodes table) _ (at_array field.Restart (restart_of basics.format basics.nodes) table (of_restart basics.format basics.nodes)) (λ restarts.
    next (loads_at table) _ (at_array field.Load load_of table of_load) (λ loads.
    next (unknown_checked basics.format table) _ (of_unknown basics.format table) (λ _. tt))))))

-- a fault is one of reading where it is so unless memory was refused
unless_memory : (fault : Fault) → (fault ≢ OutOfMemory → IsFaultOfCheck fault) → IsFaultOfCheck fault
unless_memory OutOfMemory h = tt
unless_memory fault h = h (λ e. cc)

pub OnlyFaultsOfCheck-answer : (table : Members) (answer : Result Settings Fault) → IfErr answer (λ fault. fault ≢ OutOfMemory → checked table ≡ Err fault) → IfErr answer IsFaultOfCheck
OnlyFaultsOfCheck-answer table (Ok s) h = tt
OnlyFaultsOfCheck-answer table (Err fault) h =
    unless_memory fault (λ other. subst OnlyFaultsOfCheck (h other) (of_checked table))
