-- Only the owner writes its own state, so where a node writes nothing its own part of its table stays, and with it the
-- node, the bounds and the generation. Source: the LADIS 2008 paper; generations are this project's.
use Rattle.std.specs.Prelude.{◌≡◌, ℕ, List}
use Rattle.model.specs.Table.{Table, entry_at, greatest_mark}
use Rattle.model.specs.Tables.{table_of_node}

-- the table was the first and is the second
pub record KeepsOwn (old new : Table) : Type 0 where
  pub node : new.node ≡ old.node
  pub nodes : new.nodes ≡ old.nodes
  pub keys : new.keys ≡ old.keys
  pub generation : new.generation ≡ old.generation
  pub own_part : (key : ℕ) → entry_at new old.node key ≡ entry_at old old.node key
  pub greatest : greatest_mark new old.node ≡ greatest_mark old old.node

-- each node's own part stays
abbrev pub KeepOwnParts : List Table → List Table → Type 0
KeepOwnParts old new = (n : ℕ) → KeepsOwn (table_of_node old n) (table_of_node new n)
