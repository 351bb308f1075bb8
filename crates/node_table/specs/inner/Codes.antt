-- The code of a table's view. Source: this project.
use Rattle.std.specs.Prelude.{ℕ, refl}
use Rattle.std.specs.Coded.{Coded, code_by, coded×, coded_ℕ}
use Rattle.model.specs.Table.{Table}
use Rattle.node_table.specs.NodeTableView.{NodeTableView}
use Rattle.model.specs.inner.Codes.{table_code}

abbrev pub kept_code : Coded NodeTableView
kept_code =
    code_by (Table × ℕ) (coded× table_code coded_ℕ) (λ k. (k.table, k.room)) (λ p. record { table = p.0; room = p.1 }) (λ _. refl)
