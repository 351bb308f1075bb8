-- What holds of the tables of all nodes between the exchanges of a list: copies hold nothing but their owners' writes,
-- in the scuttle modes without a gap, and no mark goes down. Source: the LADIS 2008 paper, which rests on the first two;
-- the third is this project's.
use Rattle.std.specs.Prelude.{ℕ, ◌<◌, List, length}
use Rattle.model.specs.Table.{Table, entry_at}
use Rattle.model.specs.Tables.{table_of_node, AreTablesInOrder, AreProper}
use Rattle.model.specs.ExchangeLaws.{NoMarkFalls}
use Rattle.model.specs.Copies.{OwnParts, Generations, WritesBy, IsLastOf, HoldsWrites, HasNoGapOf}

-- what each node's table holds of itself
abbrev pub own_parts : List Table → OwnParts
own_parts ts owner key = entry_at (table_of_node ts owner) owner key

-- the generation that each node is in
abbrev pub generations_of : List Table → Generations
generations_of ts owner = (table_of_node ts owner).generation

-- the owners have made these writes: each one's own part is the last of each key in its generation, and copies hold
-- nothing else
pub record AreCopiesOf (writes : WritesBy) (nodes keys : ℕ) (ts : List Table) : Type 0 where
  pub tables : AreTablesInOrder nodes keys ts
  pub proper : AreProper ts
  pub last : (owner : ℕ) → owner < nodes → IsLastOf (generations_of ts owner) (writes owner) (own_parts ts owner)
  pub holds : (n : ℕ) → n < nodes → HoldsWrites writes (table_of_node ts n)

-- no copy has a gap
abbrev pub HaveNoGap : List Table → Type 0
HaveNoGap ts =
    (n : ℕ) → n < length ts → (owner : ℕ) → HasNoGapOf owner (own_parts ts owner) (table_of_node ts n)

-- no mark in any table goes down
abbrev pub NoMarksFall : List Table → List Table → Type 0
NoMarksFall old new = (n : ℕ) → NoMarkFalls (table_of_node old n) (table_of_node new n)
