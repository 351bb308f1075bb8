-- What one message may carry, its budget: so many entries, or entries of so many bytes in all. An entry's size is 24
-- bytes and as many more as its value modulo 1000. Source: this project; the LADIS 2008 paper has a bound of the
-- message's size alone.
use Rattle.std.specs.Prelude.{ℕ, ◌+◌, ◌%◌}
use Rattle.bench_types.specs.declared.entries.Entry.{Entry}
use Rattle.bench_types.specs.declared.exchanges.Budget.{Budget}
use Rattle.bench_types.specs.declared.exchanges.Budget.TheVariants.{Entries, Bytes}
use Rattle.limits.specs.declared.TheConstants.{LEAST_ENTRY_SIZE, ENTRY_SIZES, MOST_ENTRY_SIZE}

-- how many bytes an entry takes
abbrev pub entry_size : Entry → ℕ
entry_size e = LEAST_ENTRY_SIZE + e.value % ENTRY_SIZES

-- how much a budget has
abbrev pub amount_of : Budget → ℕ
amount_of (Entries n) = n
amount_of (Bytes n) = n

-- how much of it an entry takes
abbrev pub share_of : Budget → Entry → ℕ
share_of (Entries _) e = 1
share_of (Bytes _) e = entry_size e

-- the largest share that an entry may take
abbrev pub largest_share : Budget → ℕ
largest_share (Entries _) = 1
largest_share (Bytes _) = MOST_ENTRY_SIZE
