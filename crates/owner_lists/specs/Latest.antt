-- The last write of each key, as a list that rises by key. Source: this project.
use Rattle.std.specs.Prelude.{◌≡◌, ℕ, List, map, Option}
use lib.Dec.{T}
use Rattle.std.specs.Ordering.{nat_cmp}
use Rattle.std.specs.FinMap.{find, is_sorted}
use Rattle.model.specs.declared.writes.Write.{Write}
use Rattle.model.specs.calls.Writes.{last_write}

abbrev pub with_key : Write → ℕ × Write
with_key w = (w.key, w)

abbrev pub keyed : List Write → List (ℕ × Write)
keyed ws = map with_key ws

-- the keys rise
abbrev pub KeysRise : List Write → Type 0
KeysRise ws = T (is_sorted nat_cmp (keyed ws))

-- the write of a key in such a list
abbrev pub write_of : List Write → ℕ → Option Write
write_of ws key = find nat_cmp key (keyed ws)

-- these are the last writes of a list, one for each key that was written
pub record IsLatest (latest writes : List Write) : Type 0 where
  pub rising : KeysRise latest
  pub last : (key : ℕ) → write_of latest key ≡ last_write writes key
