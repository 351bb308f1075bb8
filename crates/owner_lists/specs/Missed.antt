-- The writes that a copy missed. Source: this project.
use Rattle.std.specs.Prelude.{ℕ, ◌==◌, ◌&&◌, nat_lt, List, find, Bool, Option}
use Rattle.model.specs.declared.writes.Write.{Write}

-- a write of this key above a version
abbrev pub is_missed : ℕ → ℕ → Write → Bool
is_missed key version w = w.key == key && nat_lt version w.version

-- the least write of a key above a version: the writes stand by version, so it is the first
abbrev pub first_missed : List Write → ℕ → ℕ → Option Write
first_missed writes key version = find (is_missed key version) writes
