-- The entries that a table holds of one owner, ascending by version and then by key. Source: this project.
use Rattle.std.specs.Prelude.{◌≡◌, ℕ, ◌<◌, ◌⊎◌, List, length, Some, slice_index}
use Rattle.std.specs.Ordering.{nat_cmp, ordering_then}
use Rattle.std.specs.List.{AllPairs, Contains}
use Rattle.std.specs.declared.cmp.Ordering.{Ordering}
use Rattle.std.specs.declared.cmp.Ordering.TheVariants.{Less}
use Rattle.bench_types.specs.declared.entries.Entry.{Entry}
use Rattle.bench_types.specs.declared.entries.Mark.{Mark}
use Rattle.bench_types.specs.Mark.{mark_of, IsBefore}
use Rattle.model.specs.Table.{Table, entry_at, generation_held, greatest_version}

abbrev pub entry_cmp : Entry → Entry → Ordering
entry_cmp d e = ordering_then (nat_cmp d.version e.version) (nat_cmp d.key e.key)

-- the first stands before the second
abbrev pub StandsBefore : Entry → Entry → Type 0
StandsBefore d e = entry_cmp d e ≡ Less

-- the entries that a table holds of an owner above a mark, ascending by version and then by key
pub record AreAbove (t : Table) (owner : ℕ) (mark : Mark) (entries : List Entry) : Type 0 where
  pub rising : AllPairs StandsBefore entries
  pub held : (e : Entry) → Contains entries e → (entry_at t owner e.key ≡ Some e) × IsBefore mark (mark_of e)
  pub all : (key : ℕ) (e : Entry) → entry_at t owner key ≡ Some e → IsBefore mark (mark_of e) → Contains entries e

-- the generation of each owner's copy, in order, or none where all are 0
pub record AreGenerations (t : Table) (generations : List ℕ) : Type 0 where
  pub count : (length generations ≡ 0) ⊎ (length generations ≡ t.nodes)
  pub held : (owner : ℕ) → owner < t.nodes → slice_index generations owner ≡ generation_held t owner

-- the greatest version of each owner, in order
pub record AreGreatest (t : Table) (versions : List ℕ) : Type 0 where
  pub count : length versions ≡ t.nodes
  pub greatest : (owner : ℕ) → owner < t.nodes → slice_index versions owner ≡ greatest_version t owner
