-- One write more. Source: this project.
use Rattle.std.specs.Prelude.{ℕ, List, length}
use Rattle.bench_types.specs.Entry.{next_version}
use Rattle.model.specs.declared.writes.Write.{Write}

-- the write that comes next
abbrev pub next_write : List Write → ℕ → ℕ → Write
next_write writes key born = record { key = key; version = next_version (length writes); born = born }
