-- Entries that an owner writes one after another. Source: the LADIS 2008 paper for versions that rise; generations
-- are this project's.
use Rattle.std.specs.Prelude.{◌≡◌, ℕ, ◌+◌, ◌<◌, List, length, slice_index_or}
use Rattle.bench_types.specs.declared.entries.Entry.{Entry}
use Rattle.bench_types.specs.Entry.{next_version}

-- an entry is the one that an owner writes in a generation after so many of it
abbrev pub IsNextAfter : ℕ → ℕ → Entry → Type 0
IsNextAfter generation count e = (e.generation ≡ generation) × (e.version ≡ next_version count)

-- the entries are those that an owner writes in a generation after so many of it, one after another
abbrev pub AreNextAfter : ℕ → ℕ → List Entry → Type 0
AreNextAfter generation count entries =
    (i : ℕ) (d : Entry) → i < length entries → IsNextAfter generation (count + i) (slice_index_or entries i d)
