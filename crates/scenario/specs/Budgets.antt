-- The budget of a message, as the document's format has it: format 1 in entries, format 2 in bytes. An integer that
-- leaves no room for the largest entry has a fault of its own. Source: this project.
use Rattle.std.specs.Prelude.{ℕ, pos, negsuc, Bool, true, false, ◌==◌, nat_lt, Result, Ok, Err, if◌then◌else◌}
use Rattle.toml.specs.Data.{Data, integer, Members}
use Rattle.bench_types.specs.declared.exchanges.Budget.{Budget}
use Rattle.bench_types.specs.declared.exchanges.Budget.TheVariants.{Entries, Bytes}
use Rattle.bench_types.specs.declared.faults.Fault.{Fault}
use Rattle.bench_types.specs.declared.faults.Fault.TheVariants.{BudgetTooSmall}
use Rattle.bench_types.specs.declared.fields.Field.{Field}
use Rattle.bench_types.specs.declared.fields.Field.TheVariants as field
use Rattle.limits.specs.declared.TheConstants.{MOST_BUDGET, MOST_ENTRY_SIZE, MOST_BUDGET_BYTES}
use Rattle.scenario.specs.Fields.{◌>>=◌, value_at, number_of, number_at}

-- a format in which budgets are in entries
abbrev pub is_in_entries : ℕ → Bool
is_in_entries format = format == 1

-- the field that a format has for it
abbrev pub budget_field : ℕ → Field
budget_field format = if is_in_entries format then field.Budget else field.BudgetBytes

abbrev pub entries_at : Members → Result Budget Fault
entries_at table = number_at field.Budget 1 MOST_BUDGET table >>= (λ n. Ok (Entries n))

-- an integer below the largest entry's size
abbrev pub is_too_small : Data → Bool
is_too_small (integer (pos n)) = nat_lt n MOST_ENTRY_SIZE
is_too_small (integer (negsuc n)) = true
is_too_small _ = false

abbrev pub bytes_of : Data → Result ℕ Fault
bytes_of value =
    if is_too_small value then Err BudgetTooSmall
    else number_of field.BudgetBytes MOST_ENTRY_SIZE MOST_BUDGET_BYTES value

abbrev pub bytes_at : Members → Result Budget Fault
bytes_at table = value_at field.BudgetBytes table >>= bytes_of >>= (λ n. Ok (Bytes n))

abbrev pub budget_at : ℕ → Members → Result Budget Fault
budget_at format table = if is_in_entries format then entries_at table else bytes_at table
