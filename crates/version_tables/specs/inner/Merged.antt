-- Two tables that take of each other all that is above their own greatest numbers. Source: this project.
use Rattle.std.specs.Prelude.{◌≡◌, ◌*◌, ◌<◌, ◌≤◌, ◌&&◌, ◌⊎◌}
use Rattle.version_tables.specs.inner.Common.{ℕ, false, max, nat_lt, nat_le, List, slice_index, Entry, Budget, Scuttle, Rules, amount_of, largest_share, digest_kind, AreChanged, BothCounts, cell, most_ahead, number_raised, total_above, ArePlanesChanged, HistoriesView, VersionTableView, IsKept}
use Rattle.version_tables.specs.inner.Histories.{bases_in}

-- nothing that is held is of an earlier generation than its owner's, which has so many writes before it
abbrev pub AreCurrent : (ℕ → ℕ) → VersionTableView → Type 0
AreCurrent bases v =
    (owner : ℕ) → owner < v.nodes
    → (nat_lt 0 (slice_index v.greatest owner) && nat_le (slice_index v.greatest owner) (bases owner)) ≡ false

-- how many numbers one table has above the other's greatest ones
abbrev pub count_ahead : VersionTableView → VersionTableView → ℕ
count_ahead from to = total_above from.nodes from.keys from.cells to.greatest

-- these surely fit, as few as the greatest numbers are apart, or as they are counted
unfoldable pub SurelyFits : Budget → VersionTableView → VersionTableView → Type 0
SurelyFits budget from to =
    (most_ahead from.nodes from.keys from.greatest to.greatest * largest_share budget ≤ amount_of budget)
    ⊎ (count_ahead from to * largest_share budget ≤ amount_of budget)

-- one table has nothing of the other's node above what that has itself
abbrev pub HasNoNewer : VersionTableView → VersionTableView → Type 0
HasNoNewer one other = slice_index one.greatest other.node ≤ slice_index other.greatest other.node

-- all that one table has above the other's greatest numbers surely fits, and of the other's owner there is nothing
pub record MayTakeAll (budget : Budget) (bases : ℕ → ℕ) (from to : VersionTableView) : Type 0 where
  pub fits : SurelyFits budget from to
  pub current : AreCurrent bases to
  pub own : HasNoNewer from to

-- and so it is both ways
pub record MayMerge (rules : Rules) (h : HistoriesView) (initiator responder : VersionTableView) : Type 0 where
  pub kind : digest_kind rules.mode ≡ Scuttle
  pub back : MayTakeAll rules.budget (bases_in h.lists) responder initiator
  pub forth : MayTakeAll rules.budget (bases_in h.lists) initiator responder

-- a table has taken all that another has above its own greatest numbers: its numbers alone have changed
pub record HasMerged (from to new : VersionTableView) : Type 0 where
  pub numbers : ArePlanesChanged (λ r k x y. y ≡ number_raised x (cell from.cells to.nodes r k)
      (slice_index to.greatest r)) to.nodes to.keys to.cells new.cells
  pub most : AreChanged (λ r x y. y ≡ max x (slice_index from.greatest r)) to.greatest new.greatest
  pub rest : new ≡ record to { cells = new.cells; greatest = new.greatest }

-- both tables stay tables where each takes all of the other
pub record BothStayMerged (written : ℕ → List Entry) (initiator responder : VersionTableView) : Type 0 where
  pub nodes : initiator.nodes ≡ responder.nodes
  pub keys : initiator.keys ≡ responder.keys
  pub first : (new : VersionTableView) → HasMerged responder initiator new → IsKept written new
  pub second : (new : VersionTableView) → HasMerged initiator responder new → IsKept written new

-- and each has taken it, so many numbers
pub record HaveMerged (initiator responder new_initiator new_responder : VersionTableView)
    (came : BothCounts) : Type 0 where
  pub first : HasMerged responder initiator new_initiator
  pub second : HasMerged initiator responder new_responder
  pub back : came.first ≡ count_ahead responder initiator
  pub forth : came.second ≡ count_ahead initiator responder
