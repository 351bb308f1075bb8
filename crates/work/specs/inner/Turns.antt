-- What one exchange makes of the tables in memory. Source: this project.
use Rattle.std.specs.Prelude.{◌≡◌, List, [], ◌∷◌, ◌++◌, map}
use Rattle.bench_types.specs.declared.exchanges.Exchange.{Exchange}
use Rattle.bench_types.specs.declared.exchanges.Record.{Record}
use Rattle.bench_types.specs.declared.exchanges.Rules.{Rules}
use Rattle.model.specs.Table.{Table}
use Rattle.model.specs.Folds.{exchange_in}

-- behind any records
abbrev pub IsPairExchanged : {T : Type 0} → (T → Table) → Rules → Exchange → List T → List T → Record → Type 0
IsPairExchanged table rules e old new r =
    (before : List Record) → exchange_in rules (record { tables = map table old; records = before }) e ≡ record { tables = map table new; records = before ++ r ∷ [] }
