-- The writes of an owner in a generation, in order. Only the owner writes its own state, and its n-th write of a
-- generation has version n, from 1. Source: the LADIS 2008 paper; generations, the numbers and `born`, the round of a
-- write, are this project's.
use Rattle.std.specs.Prelude.{ℕ, ◌==◌, ◌&&◌, List, find, Option}
use Rattle.bench_types.specs.declared.entries.Entry.{Entry}
use Rattle.bench_types.specs.declared.entries.Mark.{Mark}
use Rattle.bench_types.specs.Mark.{is_before}
use Rattle.model.specs.declared.writes.Write.{Write}

-- an entry as a write, which leaves out generation and value
abbrev pub write_of_entry : Entry → Write
write_of_entry e = record { key = e.key; version = e.version; born = e.born }

-- the least write of a key above a mark, where all are of one generation
abbrev pub first_above : ℕ → List Write → ℕ → Mark → Option Write
first_above generation writes key mark =
    find (λ w. w.key == key && is_before mark (record { generation = generation; version = w.version })) writes
