-- What the check of a document gives is what the document says.
-- Serves `read`.
use Rattle.scenario.proofs.Common.{◌≡◌, ℕ, ◌+◌, ◌-◌, ◌⊎◌, inl, inr, pos, Bool, true, false, nat_le, cond, List, [], ◌∷◌, length, map, Option, None, Some, Result, Ok, Err, IfOk, refl, sym, ap, ◌∙◌, subst, AllZip, Data, integer, string, boolean, Items, Members, get_member, Budget, Fault, BudgetTooSmall, Field, TableName, MOST_ROUNDS, MOST_BUDGET, MOST_ENTRY_SIZE, MOST_BUDGET_BYTES, MOST_WRITES, MOST_ELEMENTS, field_name, mode_named}
use Rattle.toml.specs.Data as toml
use Rattle.bench_types.specs.declared.fields.Field.TheVariants as field
use Rattle.bench_types.specs.declared.fields.TableName.TheVariants as name
use Rattle.scenario.specs.declared.elements.Partition.{Partition}
use Rattle.scenario.specs.declared.elements.Restart.{Restart}
use Rattle.scenario.specs.declared.elements.Load.{Load}
use Rattle.scenario.specs.declared.parts.Basics.{Basics}
use Rattle.scenario.specs.declared.parts.Conduct.{Conduct}
use Rattle.scenario.specs.inner.Checked.{checked, unknown_checked, basics_at, conduct_at}
use Rattle.scenario.specs.Elements.{list_of, array_of, few, elements_of, forget_at, elements_have_only, only_elements, partition_fields, restart_fields, load_fields}
use Rattle.scenario.specs.inner.Elements.{each, ascending, apart_at, partition_of, restart_of, load_of, partitions_at, restarts_at, loads_at}
use Rattle.scenario.specs.Fields.{◌>>=◌, value_at, number_of, number_at, present, text_of, flag_of, flag_at, no_other_field, only_fields, has_only}
use Rattle.scenario.specs.Order.{HasNumber, HasFlag, HasBudget, HasWord, SaysPartition, SaysRestart, SaysLoad, Says}
use Rattle.scenario.specs.Budgets.{is_in_entries, entries_at, is_too_small, bytes_of, bytes_at, budget_at}
use Rattle.scenario.specs.Settings.{Settings}
use Rattle.scenario.specs.Top.{mode_at, peers_at, rotation_at, choice_at, loss_ppm_at, writes_at, top_fields}
use Rattle.scenario.specs.Words.{or_out_of_range, peers_of, rotation_of, choice_of}
use Rattle.scenario.proofs.Steps.{passed, same_ok, basics_read, kept, number_found_at}

-- a number that was read stands in the document
number_found : (f : Field) (low high n : ℕ) (o : Option Data) → (present f o >>= number_of f low high) ≡ Ok n → o ≡ Some (integer (pos n))
number_found f low high n None e = absurd cc
number_found f low high n (Some value) e = ap (λ v. Some v) (number_found_at f low high n value e)

word_meant : {A : Type 0} (f : Field) (x : A) (o : Option A) → or_out_of_range f o ≡ Ok x → o ≡ Some x
word_meant f x None e = cc
word_meant f x (Some y) e = cc

-- a word that was read stands in the document
word_found : {A : Type 0} (f : Field) (meaning : List ℕ → Option A) (x : A) (o : Option Data)
    → (present f o >>= text_of f >>= (λ word. or_out_of_range f (meaning word))) ≡ Ok x → (word : List ℕ) × (o ≡ Some (string word)) × (meaning word ≡ Some x)
word_found f meaning x None e = absurd cc
word_found f meaning x (Some (string word)) e = (word, refl, word_meant f x (meaning word) e)
word_found f meaning x (Some _) e = absurd cc

only_known : (name : TableName) (b : Bool) (u : Unit {0}) → no_other_field name b ≡ Ok u → b ≡ true
only_known name true u e = refl
only_known name false u e = absurd cc

-- the numbers of an ascending array are its values
numbers_are : (f : Field) (low high : ℕ) (values : List Data) (ns : List ℕ) → ascending f low high values ≡ Ok ns → values ≡ map (λ n. integer (pos n)) ns
numbers_are f low high [] ns e = ap (map (λ n. integer (pos n))) (same_ok [] ns e)
numbers_are f low high (value ∷ others) ns e =
    passed (number_of f low high value) _ ns e (λ n is_n e.
    passed (ascending f (n + 1) high others) _ ns e (λ more is_more e.
    let here = number_found_at f low high n value is_n in
    let after = numbers_are f (n + 1) high others more is_more in
    let whole = same_ok (n ∷ more) ns e in
    rw (← whole, here, after)))

-- numbers that were read stand in the document
numbers_found : (f : Field) (high : ℕ) (ns : List ℕ) (o : Option Data)
    → (present f o >>= array_of f >>= ascending f 0 high) ≡ Ok ns → (items : Items) × (o ≡ Some (toml.array items)) × (list_of items ≡ map (λ n. integer (pos n)) ns)
numbers_found f high ns None e = absurd cc
numbers_found f high ns (Some (toml.array items)) e = (items, refl, numbers_are f 0 high (list_of items) ns e)
numbers_found f high ns (Some _) e = absurd cc

-- elements that were read stand in the document
elements_say : {X : Type 0} (SaysElement : Data → X → Type 0) (check : Data → Result X Fault) → ((value : Data) (x : X) → check value ≡ Ok x → SaysElement value x)
    → (values : List Data) (xs : List X) → each check values ≡ Ok xs → AllZip SaysElement values xs
elements_say SaysElement check says [] xs e = subst (AllZip SaysElement []) (same_ok [] xs e) tt
elements_say SaysElement check says (value ∷ others) xs e =
    passed (check value) _ xs e (λ x is_x e.
    passed (each check others) _ xs e (λ more is_more e.
    subst (AllZip SaysElement (value ∷ others)) (same_ok (x ∷ more) xs e) (says value x is_x, elements_say SaysElement check says others more is_more)))

elements_found : {X : Type 0} (f : Field) (SaysElement : Data → X → Type 0) (check : Data → Result X Fault) → ((value : Data) (x : X) → check value ≡ Ok x → SaysElement value x)
    → (xs : List X) (o : Option Data) → (elements_of f o >>= each check) ≡ Ok xs
    → ((o ≡ None) × (xs ≡ [])) ⊎ ((items : Items) × (o ≡ Some (toml.array items)) × AllZip SaysElement (list_of items) xs)
elements_found f SaysElement check says xs None e = inl (refl, sym (same_ok [] xs e))
elements_found f SaysElement check says xs (Some (toml.array items)) e =
    passed (few f (list_of items)) _ xs e (λ values is_values e.
    let same = (kept (nat_le (length (list_of items)) MOST_ELEMENTS) (list_of items) values _ is_values).1 in
    inr (items, refl, subst (λ vs. AllZip SaysElement vs xs) (sym same) (elements_say SaysElement check says values xs e)))
elements_found f SaysElement check says xs (Some _) e = absurd cc

partition_says : (nodes : ℕ) (value : Data) (p : Partition) → partition_of nodes value ≡ Ok p → SaysPartition value p
partition_says nodes (toml.table members) p all =
    passed (number_at field.PartitionFrom 1 MOST_ROUNDS members) _ p all (λ from is_from e.
    passed (number_at field.PartitionTo from MOST_ROUNDS members) _ p e (λ to is_to e.
    passed (apart_at nodes members) _ p e (λ apart is_apart e.
    subst (SaysPartition (toml.table members)) (same_ok _ p e) (record {
      is_table = refl;
      from = number_found field.PartitionFrom _ _ _ _ is_from;
      to = number_found field.PartitionTo _ _ _ _ is_to;
      apart = numbers_found field.PartitionApart _ _ _ is_apart;
    }))))
partition_says nodes _ p all = absurd cc

-- true or false that was read stands in the document, or nothing where it is false
flag_found : (f : Field) (flag : Bool) (table : Members) → flag_at f table ≡ Ok flag → HasFlag table f flag
flag_found f flag table e = either (get_member (field_name f) table) refl e where
  either : (o : Option Data) → get_member (field_name f) table ≡ o → flag_of f o ≡ Ok flag → HasFlag table f flag
  either None is e = inr (is, sym (same_ok false flag e))
  either (Some (boolean b)) is e = inl (is ∙ ap (λ b. Some (boolean b)) (same_ok b flag e))
  either (Some _) is e = absurd cc

restart_says : (format nodes : ℕ) (value : Data) (r : Restart) → restart_of format nodes value ≡ Ok r → SaysRestart format value r
restart_says format nodes (toml.table members) r all =
    passed (number_at field.RestartNode 0 (nodes - 1) members) _ r all (λ node is_node e.
    passed (number_at field.RestartRound 1 MOST_ROUNDS members) _ r e (λ round is_round e.
    passed (number_at field.RestartDown 0 MOST_ROUNDS members) _ r e (λ down is_down e.
    passed (forget_at format members) _ r e (λ forget is_forget e.
    subst (SaysRestart format (toml.table members)) (same_ok _ r e) (record {
      is_table = refl;
      node = number_found field.RestartNode _ _ _ _ is_node;
      round = number_found field.RestartRound _ _ _ _ is_round;
      down = number_found field.RestartDown _ _ _ _ is_down;
      forget = λ has. flag_found field.RestartForget forget members (rw has at is_forget);
      keeps = λ has. sym (same_ok false forget (rw has at is_forget));
    })))))
restart_says format nodes _ r all = absurd cc

load_says : (value : Data) (l : Load) → load_of value ≡ Ok l → SaysLoad value l
load_says (toml.table members) l all =
    passed (number_at field.LoadFrom 1 MOST_ROUNDS members) _ l all (λ from is_from e.
    passed (number_at field.LoadTo from MOST_ROUNDS members) _ l e (λ to is_to e.
    passed (number_at field.LoadWrites 0 MOST_WRITES members) _ l e (λ writes is_writes e.
    subst (SaysLoad (toml.table members)) (same_ok _ l e) (record {
      is_table = refl;
      from = number_found field.LoadFrom _ _ _ _ is_from;
      to = number_found field.LoadTo _ _ _ _ is_to;
      writes = number_found field.LoadWrites _ _ _ _ is_writes;
    }))))
load_says _ l all = absurd cc

-- what is read of how large the run is, is what the document says
record SayBasics (table : Members) (b : Basics) : Type 0 where
  format : HasNumber table field.Format b.format
  nodes : HasNumber table field.Nodes b.nodes
  keys : HasNumber table field.Keys b.keys
  rounds : HasNumber table field.Rounds b.rounds
  seed : HasNumber table field.Seed b.seed

basics_say : (table : Members) (b : Basics) → basics_at table ≡ Ok b → SayBasics table b
basics_say table b all =
    let read = basics_read table b all in
    record {
      format = number_found field.Format _ _ _ _ read.format;
      nodes = number_found field.Nodes _ _ _ _ read.nodes;
      keys = number_found field.Keys _ _ _ _ read.keys;
      rounds = number_found field.Rounds _ _ _ _ read.rounds;
      seed = number_found field.Seed _ _ _ _ read.seed;
    }

-- and so is what is read of its rules
record SayConduct (table : Members) (c : Conduct) : Type 0 where
  mode : HasWord table field.Mode mode_named c.mode
  budget : HasBudget table c.budget
  peers : HasWord table field.Peers peers_of c.peers
  rotation : HasWord table field.Rotation rotation_of c.rotation
  choice : HasWord table field.Choice choice_of c.choice
  loss_ppm : HasNumber table field.LossPpm c.loss_ppm
  writes : HasNumber table field.Writes c.writes

-- a budget that was read stands in the document
bytes_found : (n : ℕ) (o : Option Data) → (present field.BudgetBytes o >>= bytes_of) ≡ Ok n → o ≡ Some (integer (pos n))
bytes_found n None e = absurd cc
bytes_found n (Some value) e = ap (λ v. Some v) (large (is_too_small value) e) where
  large : (b : Bool) → cond b (Err BudgetTooSmall) (number_of field.BudgetBytes MOST_ENTRY_SIZE MOST_BUDGET_BYTES value) ≡ Ok n → value ≡ integer (pos n)
  large true e = absurd cc
  large false e = number_found_at field.BudgetBytes MOST_ENTRY_SIZE MOST_BUDGET_BYTES n value e

budget_found : (format : ℕ) (table : Members) (b : Budget) → budget_at format table ≡ Ok b → HasBudget table b
budget_found format table b all = either (is_in_entries format) all where
  either : (is : Bool) → cond is (entries_at table) (bytes_at table) ≡ Ok b → HasBudget table b
  either true e =
      passed (number_at field.Budget 1 MOST_BUDGET table) _ b e (λ n is_n e.
      subst (HasBudget table) (same_ok _ b e) (number_found field.Budget _ _ _ _ is_n))
  either false e =
      passed (value_at field.BudgetBytes table >>= bytes_of) _ b e (λ n is_n e.
      subst (HasBudget table) (same_ok _ b e) (bytes_found n _ is_n))

conduct_says : (format : ℕ) (table : Members) (c : Conduct) → conduct_at format table ≡ Ok c → SayConduct table c
conduct_says format table c all =
    passed (mode_at table) _ c all (λ mode is_mode e.
    passed (budget_at format table) _ c e (λ budget is_budget e.
    passed (peers_at table) _ c e (λ peers is_peers e.
    passed (rotation_at table) _ c e (λ rotation is_rotation e.
    passed (choice_at table) _ c e (λ choice is_choice e.
    passed (loss_ppm_at table) _ c e (λ loss_ppm is_loss_ppm e.
    passed (writes_at table) _ c e (λ writes is_writes e.
    subst (SayConduct table) (same_ok _ c e) (record {
      mode = word_found field.Mode mode_named _ _ is_mode;
      budget = budget_found format table _ is_budget;
      peers = word_found field.Peers peers_of _ _ is_peers;
      rotation = word_found field.Rotation rotation_of _ _ is_rotation;
      choice = word_found field.Choice choice_of _ _ is_choice;
      loss_ppm = number_found field.LossPpm _ _ _ _ is_loss_ppm;
      writes = number_found field.Writes _ _ _ _ is_writes;
    }))))))))

-- what the check gives is what the document says
pub Says-checked : (table : Members) (s : Settings) → checked table ≡ Ok s → Says table s
Says-checked table s all =
    passed (basics_at table) _ s all (λ basics is_basics e.
    passed (conduct_at basics.format table) _ s e (λ conduct is_conduct e.
    passed (partitions_at basics.nodes table) _ s e (λ partitions is_partitions e.
    passed (restarts_at basics.format basics.nodes table) _ s e (λ restarts is_restarts e.
    passed (loads_at table) _ s e (λ loads is_loads e.
    passed (unknown_checked basics.format table) _ s e (λ u is_known e.
    passed (only_fields name.Top (top_fields basics.format) table) _ u is_known (λ _ is_top known.
    passed (only_elements name.Partition field.Partition partition_fields table) _ u known (λ _ is_partition known.
    passed (only_elements name.Restart field.Restart (restart_fields basics.format) table) _ u known (λ _ is_restart is_load.
    let said = basics_say table basics is_basics in
    let ruled = conduct_says basics.format table conduct is_conduct in
    subst (Says table) (same_ok _ s e) (record {
      format = said.format;
      nodes = said.nodes;
      keys = said.keys;
      rounds = said.rounds;
      seed = said.seed;
      mode = ruled.mode;
      budget = ruled.budget;
      peers = ruled.peers;
      rotation = ruled.rotation;
      choice = ruled.choice;
      loss_ppm = ruled.loss_ppm;
      writes = ruled.writes;
      partitions = elements_found field.Partition SaysPartition (partition_of basics.nodes) (partition_says basics.nodes) partitions _ is_partitions;
      restarts = elements_found field.Restart (SaysRestart basics.format) (restart_of basics.format basics.nodes) (restart_says basics.format basics.nodes) restarts _ is_restarts;
      loads = elements_found field.Load SaysLoad load_of load_says loads _ is_loads;
      others = only_known name.Top (has_only (top_fields basics.format) table) _ is_top;
      others_of_partitions = only_known name.Partition (elements_have_only field.Partition partition_fields table) _ is_partition;
      others_of_restarts = only_known name.Restart (elements_have_only field.Restart (restart_fields basics.format) table) _ is_restart;
      others_of_loads = only_known name.Load (elements_have_only field.Load load_fields table) _ is_load;
    }))))))))))

-- the same of an answer, `Ok` or `Err`
pub Says-answer : (table : Members) (answer : Result Settings Fault) → IfOk answer (λ s. checked table ≡ Ok s) → IfOk answer (λ s. Says table s)
Says-answer table (Ok s) e = Says-checked table s e
Says-answer table (Err fault) e = tt
