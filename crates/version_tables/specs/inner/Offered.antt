-- What is offered from one table to another, in memory. Source: this project.
use Rattle.std.specs.Prelude.{◌≡◌, ◌≢◌, ◌<◌, ◌≤◌}
use Rattle.version_tables.specs.inner.Common.{ℕ, List, length, map, slice_index, Entry, DigestKind, Rules, by_first, first_sent, digest_kind, digest_size, all_writes, cell, total_above, HasEach, HasEachPlace, HistoriesView, VersionTableView, offered_by, told_by, told_number, table_in, IsKept}
use Rattle.version_tables.specs.declared.deltas.DeltaMarks.{DeltaMarks}
use Rattle.version_tables.specs.declared.deltas.Offered.{Offered}
use Rattle.version_tables.specs.inner.Deltas.{AreMarksOf}

-- what a receiver tells of each owner
abbrev pub AreTold : DigestKind → ℕ → HistoriesView → VersionTableView → List ℕ → Type 0
AreTold kind most h to =
    HasEach (length h.lists) (λ r n. n ≡ told_number kind most to.node (all_writes h.lists) (slice_index to.greatest) r)

-- low marks above which a receiver lacks what a sender has: what is told of other owners, and of itself no less than
-- both have
pub record AreLow (kind : DigestKind) (h : HistoriesView) (from to : VersionTableView) (low : List ℕ) : Type 0 where
  pub count : length low ≡ to.nodes
  pub others : (owner : ℕ) → owner < to.nodes → owner ≢ to.node
      → slice_index low owner ≡ told_by kind (all_writes h.lists owner) (slice_index to.greatest owner)
  pub sent : (key : ℕ) → key < from.keys → cell from.cells from.nodes to.node key ≤ slice_index low to.node
  pub held : (key : ℕ) → key < to.keys → cell to.cells to.nodes to.node key ≤ slice_index low to.node

-- the numbers offered from one table to another, over low marks
abbrev pub AreOffered : DigestKind → VersionTableView → VersionTableView → List ℕ → List ℕ → Type 0
AreOffered kind from to low cells =
    HasEachPlace from.nodes from.keys (λ r k n. n
    ≡ offered_by kind (cell from.cells from.nodes) (cell to.cells to.nodes) (slice_index low) r k) cells

-- the numbers offered over low marks that a kept table tells, how many these are, and the size of the sender's digest
pub record IsOffered {N : Type 0} (number : N → ℕ) (most : ℕ) (written : ℕ → List Entry) (kind : DigestKind)
    (h : HistoriesView) (from to : VersionTableView) (low : List N) (offered : Offered N) : Type 0 where
  pub kept : IsKept written to
  pub told : AreTold kind most h to (map number low)
  pub cells : AreOffered kind from to (map number low) (map number offered.cells.now)
  pub found : offered.found ≡ total_above from.nodes from.keys (map number offered.cells.now) (map number low)
  pub digest : offered.digest ≡ digest_size kind (table_in written from)

-- beside the low marks these are the marks of a delta, up to them or above them, by what goes first; and this is the
-- size of the sender's digest
pub record IsDelta {N : Type 0} (number : N → ℕ) (written : ℕ → List Entry) (rules : Rules) (rotation : ℕ)
    (from to : VersionTableView) (delta : DeltaMarks N) : Type 0 where
  pub marks : AreMarksOf rules rotation written from to
      (by_first (first_sent rules.mode) (map number delta.low.items) (map number delta.marked.mark.items))
      (by_first (first_sent rules.mode) (map number delta.marked.mark.items) from.greatest)
      delta.marked.counts.sent delta.marked.counts.cut
  pub digest : delta.digest ≡ digest_size (digest_kind rules.mode) (table_in written from)
