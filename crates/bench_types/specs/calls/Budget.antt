-- Which budgets calls take. Source: this project.
use Rattle.std.specs.Prelude.{◌≤◌}
use Rattle.bench_types.specs.declared.exchanges.Budget.{Budget}
use Rattle.bench_types.specs.Budget.{amount_of, largest_share}

-- a lawful budget has room for any one entry
abbrev pub IsLawfulBudget : Budget → Type 0
IsLawfulBudget budget = largest_share budget ≤ amount_of budget
