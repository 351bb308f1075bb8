-- The cells of a table that has taken a delta. Source: this project.
use Rattle.std.specs.Prelude.{◌≡◌, ◌&&◌, ◌==◌, ◌||◌, if◌then◌else◌}
use Rattle.version_tables.specs.inner.Common.{ℕ, Bool, true, false, max, nat_lt, nat_le, List, length, map, slice_index, Entry, number_kept, numbers_taken, ArePlanesChanged, AreRaised, VersionTableView, IsKept, OwnerListView, all_writes, First, by_first, HistoriesView, start_of, Owners}
use Rattle.version_tables.specs.declared.deltas.DeltaMarks.{DeltaMarks}
use Rattle.version_tables.specs.declared.taking.Arrival.{Arrival}
use Rattle.version_tables.specs.inner.Histories.{bases_in}

-- a sent number is taken that is above the receiver's and one mark, and up to another
abbrev pub is_taken : ℕ → ℕ → ℕ → ℕ → Bool
is_taken number sent low high = nat_lt (max number low) sent && nat_le sent high

-- up to where an owner's numbers are dropped, where its greatest one was raised: to where the newest generation starts,
-- if the old one is of an earlier generation than the owner's, which has so many writes before it
abbrev pub drop_start : List Entry → ℕ → ℕ → ℕ → ℕ
drop_start writes old base new =
    if (nat_lt 0 old && nat_le old base) && nat_lt old new then start_of writes new else 0

-- up to where the numbers of each owner are dropped
abbrev pub drop_starts : {N : Type 0} → (N → ℕ) → Owners N → List N → List N → ℕ → ℕ
drop_starts number owners before greatest owner =
    drop_start (all_writes owners.lists.now owner) (slice_index (map number before) owner)
    (slice_index (map number owners.bases.now) owner) (slice_index (map number greatest) owner)

-- a table has taken numbers that are sent, and dropped what is of older generations: its numbers alone have changed
pub record HasTaken (lists : List OwnerListView) (to : VersionTableView) (sent low high : List ℕ)
    (new : VersionTableView) : Type 0 where
  pub raised : AreRaised to.nodes to.keys to.cells sent low high to.greatest new.greatest
  pub kept : ArePlanesChanged (λ r k x y. y ≡ number_kept (drop_start (all_writes lists r) (slice_index to.greatest r)
      (bases_in lists r) (slice_index new.greatest r)) (numbers_taken to.nodes to.cells sent low high r k))
      to.nodes to.keys to.cells new.cells
  pub rest : new ≡ record to { cells = new.cells; greatest = new.greatest }

-- the table stays one whatever numbers it has then
abbrev pub StaysOne :
    (ℕ → List Entry) → List OwnerListView → VersionTableView → List ℕ → List ℕ → List ℕ → Type 0
StaysOne written lists to sent low high =
    (new : VersionTableView) → HasTaken lists to sent low high new → IsKept written new

-- or nothing, where the message that has the delta was lost
abbrev pub HasTakenUnless :
    Bool → List OwnerListView → VersionTableView → List ℕ → List ℕ → List ℕ → VersionTableView → Type 0
HasTakenUnless true lists to sent low high new = new ≡ to
HasTakenUnless false lists to sent low high new = HasTaken lists to sent low high new

-- this comes of a delta, by what goes first and a sender's greatest numbers, unless it has none or is lost
pub record IsArrivalOf {N : Type 0} (number : N → ℕ) (delta : DeltaMarks N) (greatest : List ℕ) (first : First)
    (is_lost : Bool) (arrival : Arrival N) : Type 0 where
  pub low : map number arrival.low.now
      ≡ by_first first (map number delta.low.items) (map number delta.marked.mark.items)
  pub high : map number arrival.high.now ≡ by_first first (map number delta.marked.mark.items) greatest
  pub nothing : arrival.nothing ≡ (is_lost || delta.marked.counts.sent == 0)

-- a table may take what comes of a sender's numbers: these are as many as its own, there are marks for each node, which
-- the histories have, and it stays one
pub record MayArrive {N : Type 0} (number : N → ℕ) (written : ℕ → List Entry) (h : HistoriesView)
    (to : VersionTableView) (sent : List ℕ) (arrival : Arrival N) : Type 0 where
  pub nodes : to.nodes ≡ length h.lists
  pub cells : length sent ≡ length to.cells
  pub low_count : length arrival.low.now ≡ to.nodes
  pub high_count : length arrival.high.now ≡ to.nodes
  pub stays : StaysOne written h.lists to sent (map number arrival.low.now) (map number arrival.high.now)

-- neither of two tables has changed
abbrev pub BothStay : VersionTableView → VersionTableView → VersionTableView → VersionTableView → Type 0
BothStay initiator responder new_initiator new_responder = (new_initiator ≡ initiator) × (new_responder ≡ responder)
