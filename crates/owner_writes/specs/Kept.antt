-- What is kept of a write. Source: this project.
use Rattle.bench_types.specs.declared.entries.Entry.{Entry}
use Rattle.owner_writes.specs.declared.writes.Kept.{Kept}

-- the entry that an owner wrote
abbrev pub entry_kept : Kept → Entry
entry_kept k = record { key = k.key; generation = k.generation.value; version = k.version; value = k.value; born = k.born }
