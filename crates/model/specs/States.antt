-- What a copy is where nothing was cut: the state that its owner had when it made the write of the greatest mark that
-- the copy holds. And when one table holds as much as another. Source: this project, after the LADIS 2008 paper's
-- greatest version, which means "everything up to here".
use Rattle.std.specs.Prelude.{◌≡◌, ℕ, ◌<◌, List, Contains}
use Rattle.bench_types.specs.declared.entries.Entry.{Entry}
use Rattle.bench_types.specs.Mark.{mark_of, IsUpTo}
use Rattle.model.specs.Table.{Table, mark_at, greatest_mark, generation_held}
use Rattle.model.specs.Tables.{table_of_node}
use Rattle.model.specs.Copies.{WritesBy, HoldsOf}
use Rattle.model.specs.Clusters.{NoMarksFall}

-- of an owner's writes in the copy's generation, up to the greatest mark that is held, none is missed: its key has it
-- or a later one
abbrev pub MissesNone : ℕ → List Entry → Table → Type 0
MissesNone owner writes t =
    (e : Entry) → Contains writes e → e.generation ≡ generation_held t owner
    → IsUpTo (mark_of e) (greatest_mark t owner) → IsUpTo (mark_of e) (mark_at t owner e.key)

-- what is held of an owner is its state at that mark: each entry is a write of the owner, the last one of its key
pub record IsStateOf (owner : ℕ) (writes : List Entry) (t : Table) : Type 0 where
  pub written : HoldsOf owner writes t
  pub last : MissesNone owner writes t

-- and so is each copy in the tables of so many nodes
abbrev pub HoldStates : ℕ → WritesBy → List Table → Type 0
HoldStates nodes writes ts =
    (n owner : ℕ) → n < nodes → owner < nodes → IsStateOf owner (writes owner) (table_of_node ts n)

-- each table holds as much as the same node's among others: no greatest mark is below the one there, and within one
-- generation no key's
abbrev pub HoldAsMuch : List Table → List Table → Type 0
HoldAsMuch ts others = NoMarksFall others ts
