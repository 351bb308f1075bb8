-- The entries of one list by key. Source: this project.
use Rattle.std.specs.Prelude.{◌≢◌, ℕ, ◌==◌, List, [], ◌∷◌, Option, None, Some, if◌then◌else◌}
use Rattle.bench_types.specs.declared.entries.Entry.{Entry}

-- the entry of a key in a list, the first where there are several
abbrev pub entry_in : List Entry → ℕ → Option Entry
entry_in [] key = None
entry_in (e ∷ es) key = if e.key == key then Some e else entry_in es key

-- two entries are of different keys
abbrev pub HaveTwoKeys : Entry → Entry → Type 0
HaveTwoKeys d e = d.key ≢ e.key
