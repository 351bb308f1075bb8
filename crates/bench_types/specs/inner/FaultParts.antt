-- What stands in a fault's line behind its first text. Source: this project.
use Rattle.std.specs.Prelude.{ℕ, List, [], codes}
use Rattle.bench_types.specs.declared.faults.Fault.{Fault}
use Rattle.bench_types.specs.declared.faults.Fault.TheVariants as fault
use Rattle.bench_types.specs.declared.fillings.Filling.{Filling}
use Rattle.bench_types.specs.declared.fillings.Filling.TheVariants as filling
use Rattle.limits.specs.declared.TheConstants.{MOST_BYTES, MOST_ENTRIES, MOST_ENTRY_SIZE}

-- what tells the fault from others of its kind
abbrev pub filling_of : Fault → Filling
filling_of fault.TooLong = filling.Number MOST_BYTES
filling_of (fault.Missing field) = filling.Field field
filling_of (fault.WrongType field) = filling.Field field
filling_of (fault.OutOfRange field) = filling.Field field
filling_of (fault.UnknownField table) = filling.Table table
filling_of fault.TooLarge = filling.Number MOST_ENTRIES
filling_of (fault.NoRecord exchange) = filling.Number exchange
filling_of fault.BudgetTooSmall = filling.Number MOST_ENTRY_SIZE
filling_of _ = filling.Nothing

-- the text behind that
abbrev pub tail_of : Fault → List ℕ
tail_of fault.TooLong = codes " bytes"
tail_of (fault.OutOfRange field) = codes " is out of range"
tail_of _ = []
