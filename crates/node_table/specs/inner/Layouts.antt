-- How a table lies in memory. Each owner of whom something is held has a block of slots, one for each key; the
-- front of the block is the owner's row. Blocks don't overlap. Source: this project.
use Rattle.std.specs.Prelude.{◌≡◌, ◌≢◌, ℕ, ◌+◌, ◌-◌, ◌/◌, ◌<◌, ◌≤◌, ◌==◌, ◌⊎◌, Bool, not, false, List, [], ◌∷◌, Some, length, map, take, drop, All, AllPairs, sum_by, slice_index, slice_index_or, vec_len, vec_capacity, if◌then◌else◌}
use Rattle.std.specs.FinMap.{insert}
use Rattle.std.specs.Ordering.{is_lt}
use Rattle.bench_types.specs.declared.entries.Entry.{Entry}
use Rattle.bench_types.specs.declared.entries.Item.{Item}
use Rattle.node_table.specs.declared.layouts.Row.{Row}
use Rattle.node_table.specs.declared.layouts.Layout.{Layout}
use Rattle.model.specs.Table.{Held, Table, greatest_version, taken, IsProper}
use Rattle.model.specs.calls.Table.{IsItemInPlace}
use Rattle.model.specs.calls.Held.{held_by_lists}
use Rattle.model.specs.inner.Held.{entry_in, HaveTwoKeys}
use Rattle.node_table.specs.Entries.{entry_cmp, StandsBefore, AreGenerations, AreGreatest}

-- the entries of a row
abbrev pub entries_in_row : List Entry → Row → List Entry
entries_in_row slots row = take row.len (drop row.start slots)

abbrev pub rows_of : List Entry → List Row → List (List Entry)
rows_of slots rows = map (entries_in_row slots) rows

-- the entries of an owner, none where there is no such row
abbrev pub row_at : List Entry → List Row → ℕ → List Entry
row_at slots rows owner = slice_index_or (rows_of slots rows) owner []

abbrev pub held_by : Layout → Held
held_by l = held_by_lists (rows_of l.slots.items l.rows.items)

-- the table that lies in memory
abbrev pub table_laid : Layout → Table
table_laid l = record { node = l.node; nodes = l.nodes; keys = l.keys; generation = l.generation; held = held_by l }

-- the table with an entry put at its place
abbrev pub with_entry : Table → ℕ → Entry → Table
with_entry t owner e = record t { held = insert t.held (owner, e.key) e }

-- what a row keeps: it rises by version and then by key, and has each key at most once
pub record IsRow (keys : ℕ) (row : List Entry) : Type 0 where
  pub rising : AllPairs StandsBefore row
  pub apart : AllPairs HaveTwoKeys row
  pub keys_below : All (λ e. e.key < keys) row
  pub written : All (λ e. 1 ≤ e.version) row

-- an entry that a row of so many keys may have
pub record FitsRow (keys : ℕ) (entry : Entry) : Type 0 where
  pub key : entry.key < keys
  pub written : 1 ≤ entry.version

-- a row of this length stands at the front of the block
pub record HasRow (block : List Entry) (len : ℕ) : Type 0 where
  pub within : len ≤ length block
  pub row : IsRow (length block) (take len block)

-- the row lies among the slots, with a block around it where it has entries
pub record IsInSlots (keys : ℕ) (slots : List Entry) (r : Row) : Type 0 where
  pub within : r.start + r.len ≤ length slots
  pub block : 0 < r.len → r.start + keys ≤ length slots
  pub row : IsRow keys (entries_in_row slots r)

-- the blocks of two rows that have entries don't overlap
abbrev pub AreApart : ℕ → Row → Row → Type 0
AreApart keys r s = 0 < r.len → 0 < s.len → (r.start + keys ≤ s.start) ⊎ (s.start + keys ≤ r.start)

abbrev pub row_len : Row → ℕ
row_len row = row.len

-- how many entries all rows have
abbrev pub count_in_rows : List Row → ℕ
count_in_rows rows = sum_by row_len rows

-- how many slots a row takes up
abbrev pub block_len : ℕ → Row → ℕ
block_len keys row = if row.len == 0 then 0 else keys

-- how rows lie among the slots
pub record AreLaid (nodes keys : ℕ) (slots : List Entry) (rows : List Row) : Type 0 where
  pub as_many : length rows ≡ nodes
  pub each : All (IsInSlots keys slots) rows
  pub apart : AllPairs (AreApart keys) rows
  pub filled : sum_by (block_len keys) rows ≡ length slots

-- what a table in memory keeps; there is always room for the generations of all copies
pub record IsLayout (l : Layout) : Type 0 where
  pub proper : IsProper (table_laid l)
  pub laid : AreLaid l.nodes l.keys l.slots.items l.rows.items
  pub greatest : AreGreatest (table_laid l) l.greatest.items
  pub generations : AreGenerations (table_laid l) l.generations.items
  pub room : l.nodes ≤ vec_capacity l.generations
  pub counted : l.count ≡ count_in_rows l.rows.items

-- the owner's row has no entry
abbrev pub IsEmptyRow : List Row → ℕ → Type 0
IsEmptyRow rows owner = (d : Row) → (slice_index_or rows owner d).len ≡ 0

-- the owner's row has some
abbrev pub IsFilledRow : List Row → ℕ → Type 0
IsFilledRow rows owner = (d : Row) → 0 < (slice_index_or rows owner d).len

-- something is held of the owner
abbrev pub IsHeld : Layout → ℕ → Type 0
IsHeld l owner = 0 < greatest_version (table_laid l) owner

-- there is room for one more block
abbrev pub HasRoomForBlock : Layout → Type 0
HasRoomForBlock l = vec_len l.slots + l.keys ≤ vec_capacity l.slots

-- as many slots, and memory for as many
pub record SameRoom (before after : Layout) : Type 0 where
  pub slots : vec_len after.slots ≡ vec_len before.slots
  pub capacity : vec_capacity after.slots ≡ vec_capacity before.slots

-- an item that may be taken: it is in its place, and of the node's own generation where it is the node's
pub record MayTakeItem (l : Layout) (item : Item) : Type 0 where
  pub layout : IsLayout l
  pub in_place : IsItemInPlace l.nodes l.keys item
  pub own : item.owner ≡ l.node → item.entry.generation ≡ l.generation

-- an item was taken in the slots that there are
pub record HasTakenItem (before after : Layout) (item : Item) : Type 0 where
  pub layout : IsLayout after
  pub table : table_laid after ≡ taken (table_laid before) item
  pub room : SameRoom before after

-- for how many more blocks there is room
abbrev pub room_of : Layout → ℕ
room_of l = (vec_capacity l.slots - vec_len l.slots) / l.keys

-- the key's entry stands at the index, or nowhere where the index is the row's length
pub record IsIndexOf (row : List Entry) (key index : ℕ) : Type 0 where
  pub within : index ≤ length row
  pub here : (d : Entry) → index < length row → (slice_index_or row index d).key ≡ key
  pub before : (k : ℕ) (d : Entry) → k < index → (slice_index_or row k d).key ≢ key

-- an entry of another key
abbrev pub has_other_key : ℕ → Entry → Bool
has_other_key key e = not (e.key == key)

-- so many entries at the front stand before the entry or tie with it, the others behind it
pub record IsRankOf (row : List Entry) (entry : Entry) (rank : ℕ) : Type 0 where
  pub within : rank ≤ length row
  pub front : (d : Entry) → 0 < rank → is_lt (entry_cmp entry (slice_index_or row (rank - 1) d)) ≡ false
  pub behind : (k : ℕ) (d : Entry) → rank ≤ k → k < length row → StandsBefore entry (slice_index_or row k d)

-- so many entries at the front: the last of them isn't above a version, and the others are
pub record IsRankAbove (row : List Entry) (version rank : ℕ) : Type 0 where
  pub within : rank ≤ length row
  pub front : (d : Entry) → 0 < rank → (slice_index_or row (rank - 1) d).version ≤ version
  pub behind : (k : ℕ) (d : Entry) → rank ≤ k → k < length row → version < (slice_index_or row k d).version

-- the row after an entry came in
pub record IsPut (keys : ℕ) (entry : Entry) (before after : List Entry) : Type 0 where
  pub row : IsRow keys after
  pub here : entry_in after entry.key ≡ Some entry
  pub others : (key : ℕ) → key ≢ entry.key → entry_in after key ≡ entry_in before key
  pub some : 0 < length after
  pub grows : length before ≤ length after

-- a block before and after an entry came into the row at its front
pub record IsPutInBlock (entry : Entry) (before : List Entry) (len : ℕ) (after : List Entry) (len' : ℕ) : Type 0 where
  pub as_long : length after ≡ length before
  pub within : len' ≤ length after
  pub put : IsPut (length before) entry (take len before) (take len' after)

abbrev pub IsOutside : Row → ℕ → ℕ → Type 0
IsOutside r start keys = (r.start + r.len ≤ start) ⊎ (start + keys ≤ r.start)

-- rows outside of a block stay
abbrev pub KeepOutside : List Entry → List Entry → ℕ → ℕ → Type 0
KeepOutside slots slots' start keys = (r : Row) → IsOutside r start keys → entries_in_row slots' r ≡ entries_in_row slots r

-- a row before and after an entry came into it, in its own block, and the other rows stayed
pub record IsPutInSlots (keys : ℕ) (entry : Entry) (before : List Entry) (r : Row) (after : List Entry) (r' : Row) : Type 0 where
  pub start : r'.start ≡ r.start
  pub within : r'.len ≤ keys
  pub put : IsPut keys entry (entries_in_row before r) (entries_in_row after r')
  pub as_long : length after ≡ length before
  pub others : KeepOutside before after r.start keys

-- an entry came into an owner's row, and the other rows stayed
pub record IsPlaced (keys owner : ℕ) (entry : Entry) (slots slots' : List Entry) (rows rows' : List Row) : Type 0 where
  pub put : IsPut keys entry (row_at slots rows owner) (row_at slots' rows' owner)
  pub others : (other : ℕ) → other ≢ owner → row_at slots' rows' other ≡ row_at slots rows other
  pub counted : count_in_rows rows' + length (row_at slots rows owner) ≡ count_in_rows rows + length (row_at slots' rows' owner)

-- an entry became all of an owner's row, and the other rows stayed
pub record IsRenewed (owner : ℕ) (entry : Entry) (slots slots' : List Entry) (rows rows' : List Row) : Type 0 where
  pub alone : row_at slots' rows' owner ≡ entry ∷ []
  pub others : (other : ℕ) → other ≢ owner → row_at slots' rows' other ≡ row_at slots rows other
  pub counted : count_in_rows rows' + length (row_at slots rows owner) ≡ count_in_rows rows + 1

-- the other owners' generations stayed
abbrev pub AreOthersKept : ℕ → List ℕ → List ℕ → Type 0
AreOthersKept owner before after = (other : ℕ) → other ≢ owner → slice_index after other ≡ slice_index before other
