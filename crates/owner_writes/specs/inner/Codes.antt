-- The code of what contracts see of a list. Source: this project.
use Rattle.std.specs.Prelude.{ℕ, List, refl}
use Rattle.std.specs.Coded.{Coded, code_by, coded×, coded_ℕ, coded_list}
use Rattle.bench_types.specs.declared.entries.Entry.{Entry}
use Rattle.bench_types.specs.contracts.entries.Entry as entry
use Rattle.model.specs.calls.OwnerListView.{OwnerListView}

abbrev pub list_code : Coded OwnerListView
list_code =
    code_by (List Entry × (List Entry × ℕ)) (coded× (coded_list (entry.the_row).coded) (coded× (coded_list (entry.the_row).coded) coded_ℕ))
    (λ v. (v.earlier, (v.current, v.generation)))
    (λ p. record { earlier = p.0; current = p.1.0; generation = p.1.1 }) (λ _. refl)
