-- What calls say of an owner's writes in a generation. Source: this project.
use Rattle.std.specs.Prelude.{◌≡◌, ℕ, ◌<◌, ◌≤◌, ◌==◌, List, length, reverse, find, slice_index_or, All, Bool, Option}
use Rattle.bench_types.specs.Entry.{next_version}
use Rattle.model.specs.declared.writes.Write.{Write}

-- the write at each place, counted from 0, comes after as many
abbrev pub IsNumbered : List Write → Type 0
IsNumbered writes = (i : ℕ) (d : Write) → i < length writes → (slice_index_or writes i d).version ≡ next_version i

-- a write of this key
abbrev pub is_write_of : ℕ → Write → Bool
is_write_of key w = w.key == key

-- the last write of a key
abbrev pub last_write : List Write → ℕ → Option Write
last_write writes key = find (is_write_of key) (reverse writes)

-- none was made after this round
abbrev pub AreBornBy : ℕ → List Write → Type 0
AreBornBy round writes = All (λ w. w.born ≤ round) writes
