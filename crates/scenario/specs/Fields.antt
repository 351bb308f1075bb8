-- What a field of a table holds, or the fault that reading it comes to: a field that is absent is missing, but for one
-- of true or false, which is then false (arrays, which may be absent, stand in `Elements`); a value of another type than
-- the field's is of the wrong type, and one of the type that the field doesn't take is out of range. Source: this
-- project.
use Rattle.std.specs.Prelude.{ℕ, ℤ, pos, negsuc, Bool, true, false, ◌&&◌, List, Option, None, Some, Result, Ok, Err, bytes_eq, nat_le, if◌then◌else◌}
use Rattle.std.specs.List.{list_any}
use Rattle.toml.specs.Data.{Data, integer, string, boolean, Members, no_members, member, get_member}
use Rattle.bench_types.specs.declared.faults.Fault.{Fault}
use Rattle.bench_types.specs.declared.faults.Fault.TheVariants.{Missing, WrongType, OutOfRange, UnknownField}
use Rattle.bench_types.specs.declared.fields.Field.{Field}
use Rattle.bench_types.specs.Field.{field_name}
use Rattle.bench_types.specs.declared.fields.TableName.{TableName}

-- one check after another: the first fault is the answer
infixl 10 ◌>>=◌
abbrev pub ◌>>=◌ : {A B : Type 0} → Result A Fault → (A → Result B Fault) → Result B Fault
Ok x >>= next = next x
Err fault >>= next = Err fault

-- what a look-up found, or the fault of a field that is absent
abbrev pub present : Field → Option Data → Result Data Fault
present f None = Err (Missing f)
present f (Some value) = Ok value

-- the value of a field
abbrev pub value_at : Field → Members → Result Data Fault
value_at f table = present f (get_member (field_name f) table)

-- an integer from low to high
abbrev pub bounded : Field → ℕ → ℕ → ℤ → Result ℕ Fault
bounded f low high (pos n) = if nat_le low n && nat_le n high then Ok n else Err (OutOfRange f)
bounded f low high (negsuc n) = Err (OutOfRange f)

abbrev pub number_of : Field → ℕ → ℕ → Data → Result ℕ Fault
number_of f low high (integer z) = bounded f low high z
number_of f low high _ = Err (WrongType f)

-- the value of a field that takes the integers from low to high
abbrev pub number_at : Field → ℕ → ℕ → Members → Result ℕ Fault
number_at f low high table = value_at f table >>= number_of f low high

abbrev pub text_of : Field → Data → Result (List ℕ) Fault
text_of f (string text) = Ok text
text_of f _ = Err (WrongType f)

-- the value of a field that takes text
abbrev pub text_at : Field → Members → Result (List ℕ) Fault
text_at f table = value_at f table >>= text_of f

-- true or false, and false where there is nothing
abbrev pub flag_of : Field → Option Data → Result Bool Fault
flag_of f None = Ok false
flag_of f (Some (boolean flag)) = Ok flag
flag_of f (Some _) = Err (WrongType f)

-- the value of a field that is true or false, and false where it is absent
abbrev pub flag_at : Field → Members → Result Bool Fault
flag_at f table = flag_of f (get_member (field_name f) table)

-- the key is that of one of the fields
abbrev pub is_among : List Field → List ℕ → Bool
is_among fields key = list_any (λ f. bytes_eq (field_name f) key) fields

-- the table has no key but those of the fields
abbrev pub has_only : List Field → Members → Bool
has_only fields no_members = true
has_only fields (member key value others) = is_among fields key && has_only fields others

-- the fault of a table that has another key
abbrev pub no_other_field : TableName → Bool → Result (Unit {0}) Fault
no_other_field name true = Ok tt
no_other_field name false = Err (UnknownField name)

abbrev pub only_fields : TableName → List Field → Members → Result (Unit {0}) Fault
only_fields name fields table = no_other_field name (has_only fields table)
