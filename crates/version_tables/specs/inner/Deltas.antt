-- A delta as marks for each owner. Source: this project.
use Rattle.std.specs.Prelude.{◌≡◌, ◌<◌}
use Rattle.version_tables.specs.inner.Common.{ℕ, Bool, List, length, slice_index, Entry, Rules, IsLawfulBudget, cell, DeltaView, delta_between, HistoriesView, VersionTableView, Table, table_in, AreSent}
use Rattle.version_tables.specs.inner.Histories.{FitsHistories}
use Rattle.version_tables.specs.inner.Taken.{is_taken}

-- the delta from one table to another, where this is what the owners write
abbrev pub delta_of_views : Rules → ℕ → (ℕ → List Entry) → VersionTableView → VersionTableView → DeltaView
delta_of_views rules rotation written from to =
    delta_between rules.mode rotation rules.budget (table_in written from) (table_in written to)

-- what marks let a receiver take of a sender's numbers
abbrev pub is_taken_at : VersionTableView → VersionTableView → List ℕ → List ℕ → ℕ → ℕ → Bool
is_taken_at from to low high owner key =
    is_taken (cell to.cells to.nodes owner key) (cell from.cells from.nodes owner key)
    (slice_index low owner) (slice_index high owner)

-- two tables with as many nodes and keys, which both fit the histories
pub record FitBoth (h : HistoriesView) (one other : Table) : Type 0 where
  pub nodes : one.nodes ≡ other.nodes
  pub keys : one.keys ≡ other.keys
  pub first : FitsHistories h one
  pub second : FitsHistories h other

-- and of which one may send the other a delta
pub record MaySend (rules : Rules) (turn : ℕ) (h : HistoriesView) (from to : Table) : Type 0 where
  pub budget : IsLawfulBudget rules.budget
  pub rotation : turn < from.nodes
  pub both : FitBoth h from to

-- marks that let the receiver take what a delta has
pub record AreMarksOf (rules : Rules) (rotation : ℕ) (written : ℕ → List Entry) (from to : VersionTableView)
    (low high : List ℕ) (sent cut : ℕ) : Type 0 where
  pub low_count : length low ≡ from.nodes
  pub high_count : length high ≡ from.nodes
  pub marks : AreSent (table_in written from) (delta_of_views rules rotation written from to).items
      (is_taken_at from to low high)
  pub count : sent ≡ length (delta_of_views rules rotation written from to).items
  pub left : cut ≡ (delta_of_views rules rotation written from to).cut
