-- What contracts see of an owner's list: all that it wrote, in order. A write is known by its mark, and what stands
-- under a mark never changes. Source: the LADIS 2008 paper for versions that rise; generations are this project's.
use Rattle.std.specs.Prelude.{◌≡◌, ◌≢◌, ℕ, ◌+◌, ◌<◌, List, [], ◌∷◌, ◌++◌, length, map, slice_index_or, All}
use Rattle.bench_types.specs.declared.entries.Entry.{Entry}
use Rattle.bench_types.specs.Entry.{next_version}
use Rattle.bench_types.specs.calls.Entry.{AreNextAfter}
use Rattle.bench_types.specs.Mark.{mark_of, IsBefore}
use Rattle.model.specs.declared.writes.Write.{Write}
use Rattle.model.specs.Writes.{write_of_entry}

-- the writes of its earlier generations, and those of the one that it is in
pub record OwnerListView : Type 0 where
  pub earlier : List Entry
  pub current : List Entry
  pub generation : ℕ

-- all that it wrote
abbrev pub entries_of : OwnerListView → List Entry
entries_of v = v.earlier ++ v.current

-- what it wrote in its generation, without generation and value
abbrev pub written : OwnerListView → List Write
written v = map write_of_entry v.current

-- each mark is below those behind it
abbrev pub MarksRise : List Entry → Type 0
MarksRise entries =
    (i j : ℕ) (d : Entry) → i < j → j < length entries
    → IsBefore (mark_of (slice_index_or entries i d)) (mark_of (slice_index_or entries j d))

-- what holds of every list: the n-th write of the generation has version n, and marks rise through all generations
pub record AreWrites (v : OwnerListView) : Type 0 where
  pub current : AreNextAfter v.generation 0 v.current
  pub earlier : All (λ e. e.generation < v.generation) v.earlier
  pub rising : MarksRise (entries_of v)

-- the owner has written nothing, and never forgot
abbrev pub no_writes : OwnerListView
no_writes = record { earlier = []; current = []; generation = 0 }

-- the entry that it writes next
abbrev pub next_entry : OwnerListView → ℕ → ℕ → ℕ → Entry
next_entry v key value born = record {
  key = key;
  generation = v.generation;
  version = next_version (length v.current);
  value = value;
  born = born;
}

-- one write more
abbrev pub with_write : OwnerListView → ℕ → ℕ → ℕ → OwnerListView
with_write v key value born = record v { current = v.current ++ next_entry v key value born ∷ [] }

-- it forgets what it wrote, and begins its next generation
abbrev pub begun_generation : OwnerListView → OwnerListView
begun_generation v = record { earlier = entries_of v; current = []; generation = v.generation + 1 }

-- the list of an owner
abbrev pub list_of_owner : List OwnerListView → ℕ → OwnerListView
list_of_owner lists owner = slice_index_or lists owner no_writes

-- all that each owner wrote
abbrev pub all_writes : List OwnerListView → ℕ → List Entry
all_writes lists owner = entries_of (list_of_owner lists owner)

-- what each owner wrote in its generation
abbrev pub lists_in : List OwnerListView → List (List Write)
lists_in lists = map written lists

-- an owner's list has become this one, and the others stay
pub record ListBecomes (owner : ℕ) (list : OwnerListView) (old new : List OwnerListView) : Type 0 where
  pub count : length new ≡ length old
  pub changed : list_of_owner new owner ≡ list
  pub others : (other : ℕ) → other ≢ owner → list_of_owner new other ≡ list_of_owner old other
