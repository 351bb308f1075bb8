-- The code of a table. Source: this project.
use Rattle.std.specs.Prelude.{ℕ, refl}
use Rattle.std.specs.Coded.{Coded, code_by, coded×, coded_ℕ}
use Rattle.std.specs.FinMap as finite
use Rattle.bench_types.specs.contracts.entries.Entry as entry
use Rattle.model.specs.Table.{Held, Table}

abbrev pub held_code : Coded Held
held_code = finite.code (coded× coded_ℕ coded_ℕ) (entry.the_row).coded

abbrev pub table_code : Coded Table
table_code =
    code_by (ℕ × (ℕ × (ℕ × (ℕ × Held))))
    (coded× coded_ℕ (coded× coded_ℕ (coded× coded_ℕ (coded× coded_ℕ held_code))))
    (λ t. (t.node, (t.nodes, (t.keys, (t.generation, t.held)))))
    (λ p. record { node = p.0; nodes = p.1.0; keys = p.1.1.0; generation = p.1.1.1.0; held = p.1.1.1.1 })
    (λ _. refl)
