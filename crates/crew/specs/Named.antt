-- What clauses name of trays and yards. Source: this project.
use Rattle.std.specs.Prelude.{ℕ, vec_len}
use Rattle.crew.specs.declared.trays.Trays.{Trays}
use Rattle.crew.specs.declared.yards.Yard.{Yard}

abbrev pub tray_count : {X P : Type 0} → Trays X P → ℕ
tray_count trays = trays.table.shared.table_id.slots

-- what says what each may hold
abbrev pub label_of : {X P : Type 0} → Trays X P → P
label_of trays = trays.table.shared.key.value

abbrev pub post_count : {D : Type 0} → Yard D → ℕ
post_count yard = vec_len yard.posts
