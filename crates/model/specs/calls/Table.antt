-- The items that a node may receive. Source: this project.
use Rattle.std.specs.Prelude.{◌≢◌, ℕ}
use Rattle.bench_types.specs.declared.entries.Item.{Item}
use Rattle.model.specs.Table.{Table, IsInPlace}

abbrev pub IsItemInPlace : ℕ → ℕ → Item → Type 0
IsItemInPlace ns ks i = IsInPlace ns ks i.owner i.entry.key i.entry

-- an item that a node may receive, of so many nodes with so many keys: another node's, in its place
abbrev pub IsFor : ℕ → ℕ → ℕ → Item → Type 0
IsFor node nodes keys i = (i.owner ≢ node) × IsItemInPlace nodes keys i

abbrev pub MayReceive : Table → Item → Type 0
MayReceive t = IsFor t.node t.nodes t.keys
