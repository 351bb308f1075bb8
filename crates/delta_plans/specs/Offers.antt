-- What one table offers another, told by numbers of writes: each owner's writes are numbered from 1, through all its
-- generations, so within one owner numbers compare as marks. Source: this project.
use Rattle.std.specs.Prelude.{◌≡◌, ℕ, ◌<◌, ◌≤◌, ◌↔◌, not, ◌&&◌, ◌==◌, true, false, if◌then◌else◌, nat_lt, Bool, List, Contains, Some, Option, None, length, map, slice_index}
pub use Rattle.delta_plans.specs.Common.{Entry, Item, Mode, mark_of, is_before, digest_kind, DigestKind, Scuttle, Precise, Table, entry_at, start_of, known_mark, sum_below, Cells, number_ahead, write_numbered, MOST_NODES, OwnerListView, entries_of, AreWrites, list_of_owner, Owners, IsNumberedHistory, OutOfMemory, all_writes, HasEach, AreChanged}

-- a table holds the writes of these numbers
abbrev pub HasCells : (ℕ → List Entry) → Cells → Table → Type 0
HasCells lists cells t =
    (owner key : ℕ) → owner < t.nodes → key < t.keys
    → entry_at t owner key ≡ write_numbered (lists owner) (cells owner key)

-- the receiver doesn't know the item, and it isn't its own
abbrev pub is_lacked : Mode → Table → Item → Bool
is_lacked mode to i = not (i.owner == to.node) && is_before (known_mark (digest_kind mode) to i) (mark_of i.entry)

-- the candidates from one table to another are the writes of the numbers above a mark for each owner
pub record Offers (mode : Mode) (from to : Table) (lists : ℕ → List Entry) (cells : Cells) (low : ℕ → ℕ) : Type 0 where
  pub above : (owner key : ℕ) → owner < from.nodes → key < from.keys → low owner < cells owner key
      → (e : Entry) × (entry_at from owner key ≡ Some e) × (write_numbered (lists owner) (cells owner key) ≡ Some e)
      × (is_lacked mode to (record { owner = owner; entry = e }) ≡ true)
  pub below : (owner key : ℕ) (e : Entry) → entry_at from owner key ≡ Some e → cells owner key ≤ low owner
      → is_lacked mode to (record { owner = owner; entry = e }) ≡ false

-- the sum of what g gives of the places of numbers above the marks
abbrev pub offered_sum : Table → Cells → (ℕ → ℕ) → (ℕ → ℕ → ℕ) → ℕ
offered_sum from cells low g =
    sum_below from.nodes (λ owner. sum_below from.keys
    (λ key. if nat_lt (low owner) (cells owner key) then g owner key else 0))

-- what of an owner isn't offered to a receiver that has this as its greatest number; the most for the receiver itself
abbrev pub told_by : DigestKind → List Entry → ℕ → ℕ
told_by Scuttle writes greatest = greatest
told_by Precise writes greatest = start_of writes greatest

abbrev pub told_number : DigestKind → ℕ → ℕ → (ℕ → List Entry) → (ℕ → ℕ) → ℕ → ℕ
told_number kind most node lists greatest owner =
    if owner == node then most else told_by kind (lists owner) (greatest owner)

-- a number of a write of a list, or 0, where it has fewer than the most and so many of earlier generations
pub record IsKnown (most : ℕ) (list : OwnerListView) (number base : ℕ) : Type 0 where
  pub few : length (entries_of list) < most
  pub within : number ≤ length (entries_of list)
  pub based : base ≡ length list.earlier
  pub writes : AreWrites list
  pub numbered : IsNumberedHistory (entries_of list)

-- and so it is of each owner's list
pub record AreKnown (most : ℕ) (lists : List OwnerListView) (numbers bases : List ℕ) : Type 0 where
  pub count : length numbers ≡ length lists
  pub base_count : length bases ≡ length lists
  pub few_nodes : length lists ≤ MOST_NODES
  pub each : (owner : ℕ) → owner < length lists
      → IsKnown most (list_of_owner lists owner) (slice_index numbers owner) (slice_index bases owner)

-- so it is of one owner's number in memory
pub record IsKnownOf {N : Type 0} (number : N → ℕ) (most : ℕ) (owners : Owners N) (owner n : ℕ) : Type 0 where
  pub within : owner < length owners.lists.now
  pub base_within : owner < length owners.bases.now
  pub is_known : IsKnown most (list_of_owner owners.lists.now owner) n (slice_index (map number owners.bases.now) owner)

-- and of all
abbrev pub AreKnownOf : {N : Type 0} → (N → ℕ) → ℕ → Owners N → List N → Type 0
AreKnownOf number most owners numbers =
    AreKnown most owners.lists.now (map number numbers) (map number owners.bases.now)

-- the numbers offered: in a precise digest's modes those ahead of the receiver's, and 0 in place of the others
abbrev pub offered_by : DigestKind → Cells → Cells → (ℕ → ℕ) → Cells
offered_by Scuttle sender receiver low = sender
offered_by Precise sender receiver low = λ owner key. number_ahead (sender owner key) (receiver owner key) (low owner)

-- these places of the sender's are what a delta has
pub record AreSent (from : Table) (items : List Item) (sent : ℕ → ℕ → Bool) : Type 0 where
  pub held : (owner key : ℕ) → owner < from.nodes → key < from.keys → sent owner key ≡ true
      → (e : Entry) × (entry_at from owner key ≡ Some e)
  pub members : (owner key : ℕ) (e : Entry) → entry_at from owner key ≡ Some e
      → (sent owner key ≡ true) ↔ Contains items (record { owner = owner; entry = e })

-- what a number of an item is at a place, 0 where nothing is held
abbrev pub number_here : (Item → ℕ) → ℕ → Option Entry → ℕ
number_here f owner None = 0
number_here f owner (Some e) = f (record { owner = owner; entry = e })

abbrev pub number_there : (Item → ℕ) → Table → ℕ → ℕ → ℕ
number_there f t owner key = number_here f owner (entry_at t owner key)

-- the sum over all places
abbrev pub sum_over : (Item → ℕ) → Table → ℕ
sum_over f t = sum_below t.nodes (λ owner. sum_below t.keys (number_there f t owner))
