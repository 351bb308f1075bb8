-- Only the owner writes its own state, so its own part of its table is, for each key, the last write with that
-- key in its list, which is of its generation. Source: this project.
use Rattle.std.specs.Prelude.{◌≡◌, ℕ, List, option_map}
use Rattle.model.specs.Table.{Table, entry_at}
use Rattle.model.specs.declared.writes.Write.{Write}
use Rattle.model.specs.Writes.{write_of_entry}
use Rattle.model.specs.calls.Writes.{last_write}

-- a node's own part is the last write of each key, in key, version and born
abbrev pub OwnPartIsLastWrites : Table → List Write → Type 0
OwnPartIsLastWrites table writes =
    (key : ℕ) → option_map write_of_entry (entry_at table table.node key) ≡ last_write writes key
