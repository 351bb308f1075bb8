-- The code of what contracts see of tables of versions. Source: this project.
use Rattle.version_tables.specs.inner.Common.{ℕ, List, refl, Coded, code_by, coded×, coded_ℕ, coded_list, VersionTableView}

abbrev pub table_view_code : Coded VersionTableView
table_view_code =
    code_by (ℕ × (ℕ × (ℕ × (ℕ × (List ℕ × List ℕ)))))
    (coded× coded_ℕ (coded× coded_ℕ (coded× coded_ℕ (coded× coded_ℕ (coded× (coded_list coded_ℕ) (coded_list coded_ℕ))))))
    (λ v. (v.node, (v.nodes, (v.keys, (v.generation, (v.cells, v.greatest))))))
    (λ p. record { node = p.0; nodes = p.1.0; keys = p.1.1.0; generation = p.1.1.1.0; cells = p.1.1.1.1.0; greatest = p.1.1.1.1.1 })
    (λ _. refl)
