-- A node's table: a finite map from owner and key to the entry that the node holds. Each node holds a copy
-- of every node's state, and only the owner writes its own; each write gets a version above all its earlier
-- ones of the node's generation, which a node leaves behind with all that it holds where it forgets. A copy of one
-- owner holds entries of one generation: one that takes a newer generation drops all of the older, and an entry of an
-- older one changes nothing. What is absent has version 0 of generation 0. Source: the LADIS 2008 paper; `born` and
-- generations are this project's.
use Rattle.std.specs.Prelude.{◌≡◌, ℕ, zero, suc, ◌+◌, ◌<◌, ◌≤◌, ◌==◌, not, nat_lt, List, Option, Some, map, fold, if◌then◌else◌}
use Rattle.std.specs.Ordering.{nat_cmp, ordering_then}
use Rattle.std.specs.declared.cmp.Ordering.{Ordering}
use Rattle.std.specs.FinMap.{FinMap, get, insert, retain_keys, entries, empty, len}
use Rattle.bench_types.specs.declared.entries.Entry.{Entry}
use Rattle.bench_types.specs.declared.entries.Item.{Item}
use Rattle.limits.specs.declared.TheConstants.{LEAST_KEYS, MOST_NODES, MOST_KEYS}
use Rattle.bench_types.specs.declared.entries.Mark.{Mark}
use Rattle.bench_types.specs.Entry.{next_version, newer}
use Rattle.bench_types.specs.Mark.{absent, mark_held, later}

-- an owner and one of its keys
abbrev pub Place : Type 0
Place = ℕ × ℕ

-- places are ordered by owner, then by key
abbrev pub place_cmp : Place → Place → Ordering
place_cmp p q = ordering_then (nat_cmp p.0 q.0) (nat_cmp p.1 q.1)

-- the entries that a node holds, each at its place
abbrev pub Held : Type 0
Held = FinMap place_cmp Entry

-- the table of one node among so many nodes with so many keys each
pub record Table : Type 0 where
  pub node : ℕ
  pub nodes : ℕ
  pub keys : ℕ
  pub generation : ℕ
  pub held : Held

abbrev pub empty_table : ℕ → ℕ → ℕ → Table
empty_table n ns ks = record { node = n; nodes = ns; keys = ks; generation = 0; held = empty }

abbrev pub entry_at : Table → ℕ → ℕ → Option Entry
entry_at t owner key = get t.held (owner, key)

abbrev pub mark_at : Table → ℕ → ℕ → Mark
mark_at t owner key = mark_held (entry_at t owner key)

-- the greatest mark among an owner's keys below a bound
abbrev pub greatest_below : Table → ℕ → ℕ → Mark
greatest_below t owner zero = absent
greatest_below t owner (suc key) = later (greatest_below t owner key) (mark_at t owner key)

-- the greatest mark held of an owner, the absent one where none is
abbrev pub greatest_mark : Table → ℕ → Mark
greatest_mark t owner = greatest_below t owner t.keys

-- its parts: the greatest generation held of an owner, and the greatest version in it
abbrev pub generation_held : Table → ℕ → ℕ
generation_held t owner = (greatest_mark t owner).generation

abbrev pub greatest_version : Table → ℕ → ℕ
greatest_version t owner = (greatest_mark t owner).version

-- how many entries are held
abbrev pub count_of : Table → ℕ
count_of t = len t.held

-- the entries with their owners, by owner and then by key
abbrev pub item_of : Place × Entry → Item
item_of e = record { owner = e.0.0; entry = e.1 }

abbrev pub items_of : Table → List Item
items_of t = map item_of (entries t.held)

-- an item comes in: its place keeps the newer entry
abbrev pub held_with : Held → Item → Held
held_with m i = insert m (i.owner, i.entry.key) (newer (get m (i.owner, i.entry.key)) i.entry)

-- nothing of an owner is held
abbrev pub without_owner : Held → ℕ → Held
without_owner m owner = retain_keys m (λ place. not (place.0 == owner))

-- what stays beside an owner's entry of a generation: of that owner nothing of an older one
abbrev pub held_beside : Table → ℕ → ℕ → Held
held_beside t owner generation =
    if nat_lt (generation_held t owner) generation then without_owner t.held owner else t.held

-- a table takes an item: one of an older generation than its copy's changes nothing
abbrev pub taken : Table → Item → Table
taken t i =
    if nat_lt i.entry.generation (generation_held t i.owner) then t
    else record t { held = held_with (held_beside t i.owner i.entry.generation) i }

-- to apply a list of items is to take them in turn
abbrev pub applied : Table → List Item → Table
applied t added = fold taken t added

-- the owner writes one of its keys: the version is the next after the greatest so far of its generation
abbrev pub own_write : Table → ℕ → ℕ → ℕ → Entry
own_write t k v b = record {
  key = k;
  generation = t.generation;
  version = next_version (greatest_version t t.node);
  value = v;
  born = b;
}

abbrev pub with_own_write : Table → ℕ → ℕ → ℕ → Table
with_own_write t k v b = record t { held = insert t.held (t.node, k) (own_write t k v b) }

-- and so one after another, each with an entry's key, value and round
abbrev pub with_own_writes : Table → List Entry → Table
with_own_writes = fold (λ t e. with_own_write t e.key e.value e.born)

-- a restart leaves the node's own entries alone
abbrev pub without_others : Table → Table
without_others t = record t { held = retain_keys t.held (λ place. place.0 == t.node) }

-- one that forgets begins the next generation with nothing
abbrev pub without_all : Table → Table
without_all t = record t { generation = t.generation + 1; held = empty }

-- an entry stands where its owner and key say, within the table's bounds
pub record IsInPlace (nodes keys owner key : ℕ) (e : Entry) : Type 0 where
  pub owner_below : owner < nodes
  pub key_below : key < keys
  pub keyed : e.key ≡ key
  pub written : 1 ≤ e.version

-- what every node's table keeps
pub record IsProper (t : Table) : Type 0 where
  pub node_below : t.node < t.nodes
  pub nodes_limit : t.nodes ≤ MOST_NODES
  pub some_key : LEAST_KEYS ≤ t.keys
  pub keys_limit : t.keys ≤ MOST_KEYS
  pub in_place : (owner key : ℕ) (e : Entry) → entry_at t owner key ≡ Some e → IsInPlace t.nodes t.keys owner key e
  pub copies : (owner key : ℕ) (e : Entry) → entry_at t owner key ≡ Some e → e.generation ≡ generation_held t owner
  pub own : (key : ℕ) (e : Entry) → entry_at t t.node key ≡ Some e → e.generation ≡ t.generation
