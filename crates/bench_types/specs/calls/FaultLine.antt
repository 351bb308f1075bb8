-- The line that the program prints of each fault, without the line's end. Source: this project.
use Rattle.std.specs.Prelude.{ℕ, List, [], ◌++◌, codes, decimal}
use Rattle.bench_types.specs.declared.faults.Fault.{Fault}
use Rattle.bench_types.specs.declared.faults.Fault.TheVariants as fault
use Rattle.bench_types.specs.declared.fillings.Filling.{Filling}
use Rattle.bench_types.specs.declared.fillings.Filling.TheVariants as filling
use Rattle.limits.specs.declared.TheConstants.{MOST_BYTES, MOST_ENTRIES, MOST_ENTRY_SIZE}
use Rattle.bench_types.specs.calls.Field.{field_text, table_name}

abbrev pub fault_line : Fault → List ℕ
fault_line fault.OutOfMemory = codes "fault 1: out of memory"
fault_line fault.NotToml = codes "fault 2: input is not TOML"
fault_line fault.TooLong = codes "fault 3: input is longer than " ++ (decimal MOST_BYTES ++ codes " bytes")
fault_line (fault.Missing field) = codes "fault 4: missing field " ++ field_text field
fault_line (fault.WrongType field) = codes "fault 5: wrong type of field " ++ field_text field
fault_line (fault.OutOfRange field) = codes "fault 6: field " ++ (field_text field ++ codes " is out of range")
fault_line (fault.UnknownField table) = codes "fault 7: unknown field in table " ++ table_name table
fault_line fault.TooLarge = codes "fault 8: nodes * nodes * keys is above " ++ decimal MOST_ENTRIES
fault_line fault.NoThread = codes "fault 9: a thread could not be started"
fault_line fault.Broken = codes "fault 10: broken by an earlier fault"
fault_line fault.Finished = codes "fault 11: no round is left"
fault_line fault.ReadFailed = codes "fault 12: reading failed"
fault_line fault.WriteFailed = codes "fault 13: writing failed"
fault_line fault.Stranger = codes "fault 14: no exchange has this stamp"
fault_line fault.Double = codes "fault 15: this stamp has a record"
fault_line (fault.NoRecord exchange) = codes "fault 16: no record of exchange " ++ decimal exchange
fault_line fault.Unfinished = codes "fault 17: exchanges are unfinished"
fault_line fault.NotAllowed = codes "fault 18: this exchange may not start"
fault_line fault.NotRunning = codes "fault 19: this exchange is not running"
fault_line fault.BudgetTooSmall = codes "fault 20: budget_bytes is below " ++ decimal MOST_ENTRY_SIZE

-- how what tells one fault from others of its kind is printed
abbrev pub filling_text : Filling → List ℕ
filling_text filling.Nothing = []
filling_text (filling.Number number) = decimal number
filling_text (filling.Field field) = field_text field
filling_text (filling.Table table) = table_name table
