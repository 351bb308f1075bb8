-- Tables of so many nodes, whatever the number of keys is. Source: this project.
use Rattle.std.specs.Prelude.{ℕ, List}
use Rattle.model.specs.Table.{Table}
use Rattle.model.specs.Tables.{table_of_node, AreTablesInOrder}

-- and so with as many keys as the first of them has
abbrev pub IsCluster : ℕ → List Table → Type 0
IsCluster nodes ts = AreTablesInOrder nodes (table_of_node ts 0).keys ts
