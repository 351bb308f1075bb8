-- The arrays of a document, whose elements are tables, and the fields of each. An array that is
-- absent has no elements. Source: this project.
use Rattle.std.specs.Prelude.{ℕ, Bool, true, false, ◌==◌, List, [], ◌∷◌, length, Option, None, Some, Result, Ok, Err, nat_le, if◌then◌else◌}
use Rattle.std.specs.List.{list_all}
use Rattle.toml.specs.Data as toml
use Rattle.toml.specs.Data.{Data, Items, no_items, item, Members, get_member}
use Rattle.bench_types.specs.declared.faults.Fault.{Fault}
use Rattle.bench_types.specs.declared.faults.Fault.TheVariants.{WrongType, OutOfRange}
use Rattle.bench_types.specs.declared.fields.Field.{Field}
use Rattle.bench_types.specs.declared.fields.Field.TheVariants as field
use Rattle.bench_types.specs.declared.fields.TableName.{TableName}
use Rattle.limits.specs.declared.TheConstants.{MOST_ELEMENTS}
use Rattle.bench_types.specs.Field.{field_name}
use Rattle.scenario.specs.Fields.{◌>>=◌, flag_at, has_only, no_other_field}

-- the items of an array, as a list
abbrev pub list_of : Items → List Data
list_of no_items = []
list_of (item value others) = value ∷ list_of others

abbrev pub array_of : Field → Data → Result (List Data) Fault
array_of f (toml.array items) = Ok (list_of items)
array_of f _ = Err (WrongType f)

abbrev pub as_table : Field → Data → Result Members Fault
as_table f (toml.table table) = Ok table
as_table f _ = Err (WrongType f)

-- an array of tables has only so many elements
abbrev pub few : Field → List Data → Result (List Data) Fault
few f values = if nat_le (length values) MOST_ELEMENTS then Ok values else Err (OutOfRange f)

abbrev pub elements_of : Field → Option Data → Result (List Data) Fault
elements_of f None = Ok []
elements_of f (Some value) = array_of f value >>= few f

-- the elements of an array of tables
abbrev pub elements_at : Field → Members → Result (List Data) Fault
elements_at f table = elements_of f (get_member (field_name f) table)

-- a format in which nodes have generations
abbrev pub has_generations : ℕ → Bool
has_generations format = format == 2

-- whether a restart forgets: only a format with generations says so
abbrev pub forget_at : ℕ → Members → Result Bool Fault
forget_at format table = if has_generations format then flag_at field.RestartForget table else Ok false

-- all fields of an element, in order; those of a restart in a format
abbrev pub partition_fields : List Field
partition_fields = field.PartitionFrom ∷ field.PartitionTo ∷ field.PartitionApart ∷ []

abbrev pub restart_fields : ℕ → List Field
restart_fields format =
    field.RestartNode ∷ field.RestartRound ∷ field.RestartDown
    ∷ (if has_generations format then field.RestartForget ∷ [] else [])

abbrev pub load_fields : List Field
load_fields = field.LoadFrom ∷ field.LoadTo ∷ field.LoadWrites ∷ []

-- the values of an array, and none where there is no array
abbrev pub values_of : Option Data → List Data
values_of (Some (toml.array items)) = list_of items
values_of _ = []

abbrev pub values_at : Field → Members → List Data
values_at f table = values_of (get_member (field_name f) table)

-- the table has no key but those of the fields
abbrev pub table_has_only : List Field → Data → Bool
table_has_only fields (toml.table table) = has_only fields table
table_has_only fields _ = true

abbrev pub elements_have_only : Field → List Field → Members → Bool
elements_have_only f fields table = list_all (table_has_only fields) (values_at f table)

-- the fault of an array with a table that has another key
abbrev pub only_elements : TableName → Field → List Field → Members → Result (Unit {0}) Fault
only_elements name f fields table = no_other_field name (elements_have_only f fields table)
