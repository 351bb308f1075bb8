-- The number of a write: its place, from 1, among all writes of its owner, those of its earlier generations too. Within
-- one owner numbers compare as marks. Source: this project.
use Rattle.std.specs.Prelude.{ℕ, zero, suc, List, [], ◌∷◌, Option, Some, None}
use Rattle.bench_types.specs.declared.entries.Entry.{Entry}

-- the write at a place, from 0
abbrev pub write_from : List Entry → ℕ → Option Entry
write_from [] place = None
write_from (e ∷ es) zero = Some e
write_from (e ∷ es) (suc place) = write_from es place

-- the write of a number, none of 0
abbrev pub write_numbered : List Entry → ℕ → Option Entry
write_numbered writes zero = None
write_numbered writes (suc place) = write_from writes place
