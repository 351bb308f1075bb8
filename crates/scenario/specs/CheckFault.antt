-- The faults that reading a scenario can come to. Source: this project.
use Rattle.bench_types.specs.declared.faults.Fault.{Fault}
use Rattle.bench_types.specs.declared.faults.Fault.TheVariants.{OutOfMemory, NotToml, Missing, WrongType, OutOfRange, UnknownField, TooLarge, BudgetTooSmall}

abbrev pub IsFaultOfCheck : Fault → Type 0
IsFaultOfCheck OutOfMemory = Unit {0}
IsFaultOfCheck NotToml = Unit {0}
IsFaultOfCheck (Missing field) = Unit {0}
IsFaultOfCheck (WrongType field) = Unit {0}
IsFaultOfCheck (OutOfRange field) = Unit {0}
IsFaultOfCheck (UnknownField table) = Unit {0}
IsFaultOfCheck TooLarge = Unit {0}
IsFaultOfCheck BudgetTooSmall = Unit {0}
IsFaultOfCheck _ = ⊥
