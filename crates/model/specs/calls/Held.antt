-- What lists of entries come to as a table's map, one list for each owner, in order: each entry stands at its owner and
-- key. Source: this project.
use Rattle.std.specs.Prelude.{ℕ, suc, List, [], ◌∷◌, ◌++◌, map}
use Rattle.std.specs.FinMap.{from_entries}
use Rattle.bench_types.specs.declared.entries.Entry.{Entry}
use Rattle.model.specs.Table.{Place, Held}

-- an owner's entry, at its place
abbrev pub placed : ℕ → Entry → Place × Entry
placed owner e = ((owner, e.key), e)

-- the entries of an owner and of those after it
abbrev pub placed_from : ℕ → List (List Entry) → List (Place × Entry)
placed_from owner [] = []
placed_from owner (list ∷ lists) = map (placed owner) list ++ placed_from (suc owner) lists

-- what they hold, the first list being that of owner 0
unfoldable pub held_by_lists : List (List Entry) → Held
held_by_lists lists = from_entries (placed_from 0 lists)
