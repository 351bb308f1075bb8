-- What a node's table holds of the owners' states. Only an owner writes its own state, and each of its writes
-- has a mark of its own, so its own part holds, for each key, the last write of its generation. In a scuttle mode the
-- greatest mark that a copy holds of an owner means "everything of that generation up to here": a copy has no gap where
-- it holds each entry of the owner's own part up to that mark. Source: the LADIS 2008 paper; generations are this
-- project's.
use Rattle.std.specs.Prelude.{◌≡◌, ℕ, ◌<◌, ◌⊎◌, List, Option, Some, Contains}
use Rattle.bench_types.specs.declared.entries.Entry.{Entry}
use Rattle.bench_types.specs.Mark.{mark_of, mark_held, IsBefore, IsUpTo}
use Rattle.model.specs.Table.{Table, entry_at, greatest_mark}

-- what the owners' own tables hold of themselves, by owner and key
abbrev pub OwnParts : Type 0
OwnParts = ℕ → ℕ → Option Entry

-- the generations that the owners are in
abbrev pub Generations : Type 0
Generations = ℕ → ℕ

-- the writes of each owner so far, of all its generations
abbrev pub WritesBy : Type 0
WritesBy = ℕ → List Entry

-- an entry is what the owner holds at its key, or older than that
abbrev pub IsCurrentOrOlder : Option Entry → Entry → Type 0
IsCurrentOrOlder current e = (current ≡ Some e) ⊎ IsBefore (mark_of e) (mark_held current)

-- an owner's own part beside its writes: the last write of each key in its generation, and no two writes have one mark
pub record IsLastOf (generation : ℕ) (writes : List Entry) (own : ℕ → Option Entry) : Type 0 where
  pub apart : (d e : Entry) → Contains writes d → Contains writes e → mark_of d ≡ mark_of e → d ≡ e
  pub written : (key : ℕ) (e : Entry) → own key ≡ Some e
      → Contains writes e × (e.key ≡ key) × (e.generation ≡ generation)
  pub last : (e : Entry) → Contains writes e → (e.generation < generation) ⊎ IsCurrentOrOlder (own e.key) e

-- each entry that the table holds of an owner is among these writes, and stands at its key
abbrev pub HoldsOf : ℕ → List Entry → Table → Type 0
HoldsOf owner writes t = (key : ℕ) (e : Entry) → entry_at t owner key ≡ Some e → Contains writes e × (e.key ≡ key)

-- each entry in the table is a write of its owner
abbrev pub HoldsWrites : WritesBy → Table → Type 0
HoldsWrites writes t = (owner : ℕ) → HoldsOf owner (writes owner) t

-- the table has each entry of the owner's own part up to the greatest mark that it holds of the owner: all where the
-- copy is of the owner's generation and no more versions were made, and none where it is of an older one
abbrev pub HasNoGapOf : ℕ → (ℕ → Option Entry) → Table → Type 0
HasNoGapOf owner own t =
    (key : ℕ) (e : Entry) → own key ≡ Some e → IsUpTo (mark_of e) (greatest_mark t owner)
    → entry_at t owner key ≡ Some e
