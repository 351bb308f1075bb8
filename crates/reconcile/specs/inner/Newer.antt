-- Entries of a table that a digest doesn't know. Source: this project.
use Rattle.std.specs.Prelude.{◌≡◌, ◌≢◌, ℕ, ◌<◌, List, Some, Contains, filter, map}
use Rattle.std.specs.List.{AllPairs}
use Rattle.std.specs.Ordering.{nat_cmp, ordering_then}
use Rattle.std.specs.declared.cmp.Ordering.{Ordering}
use Rattle.std.specs.declared.cmp.Ordering.TheVariants.{Less}
use Rattle.bench_types.specs.declared.entries.Entry.{Entry}
use Rattle.bench_types.specs.declared.entries.Item.{Item}
use Rattle.bench_types.specs.Mark.{mark_of, is_before, IsBefore}
use Rattle.model.specs.Table.{Table, entry_at}
use Rattle.node_table.specs.Entries.{StandsBefore}
use Rattle.reconcile.specs.Digests.{DigestView, told_mark_at, told_mark}

-- entries of an owner, ascending by version and then by key, with all those among them that a digest doesn't know
pub record AreNewer (t : Table) (told : DigestView) (owner : ℕ) (entries : List Entry) : Type 0 where
  pub rising : AllPairs StandsBefore entries
  pub held : (e : Entry) → Contains entries e → entry_at t owner e.key ≡ Some e
  pub all : (key : ℕ) (e : Entry) → entry_at t owner key ≡ Some e → IsBefore (told_mark_at told owner key) (mark_of e)
      → Contains entries e

abbrev pub item_with : ℕ → Entry → Item
item_with owner e = record { owner = owner; entry = e }

-- those of an owner's entries that a digest doesn't know, as items
abbrev pub newer_items : DigestView → ℕ → List Entry → List Item
newer_items told owner entries =
    filter (λ i. is_before (told_mark told i) (mark_of i.entry)) (map (item_with owner) entries)

-- by owner, then by version, then by key
abbrev pub version_order : Item → Item → Ordering
version_order a b =
    ordering_then (nat_cmp a.owner b.owner)
    (ordering_then (nat_cmp a.entry.version b.entry.version) (nat_cmp a.entry.key b.entry.key))

-- an item of a table that a digest doesn't know, and not the receiver's own
pub record IsCandidate (t : Table) (told : DigestView) (receiver : ℕ) (i : Item) : Type 0 where
  pub held : entry_at t i.owner i.entry.key ≡ Some i.entry
  pub newer : IsBefore (told_mark told i) (mark_of i.entry)
  pub other : i.owner ≢ receiver

-- all such items of the owners below a bound, by owner, then by version and then by key
pub record AreCandidates (t : Table) (told : DigestView) (receiver bound : ℕ) (items : List Item) : Type 0 where
  pub rising : AllPairs (λ i j. version_order i j ≡ Less) items
  pub each : (i : Item) → Contains items i → IsCandidate t told receiver i × (i.owner < bound)
  pub all : (i : Item) → IsCandidate t told receiver i → i.owner < bound → Contains items i
