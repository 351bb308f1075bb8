-- What loops over all planes of a table do to its numbers. Source: this project.
use Rattle.std.specs.Prelude.{◌≡◌, ℕ, ◌<◌, ◌≤◌, ◌==◌, List, length, map, max, nat_lt, slice_index, if◌then◌else◌}
use Rattle.grids.specs.Common.{MOST_KEYS, MOST_NODES, Grid, Size, AreChanged, cells_in, HasMarkOfEach, count_passing, cell, most_ahead, number_ahead, number_raised, number_taken, total_above, AreCovered, AreRaised, ArePlanesChanged, HasEachPlace, IsGrid, Masked, Peer, Sent, BothCounts, BothMarks}

-- numbers, as many as a table of a size has
pub record IsBeside {N : Type 0} (grid : Grid N) (others : List N) : Type 0 where
  pub shape : IsGrid grid.size.nodes grid.size.keys (length others)
  pub count : length grid.cells.now ≡ length others

-- an owner's numbers are among those of a table of a size
pub record HasColumn {N : Type 0} (size : Size) (cells : List N) (owner : ℕ) : Type 0 where
  pub grid : IsGrid size.nodes size.keys (length cells)
  pub among : owner < size.nodes

-- a number that is above a mark, else 0
abbrev pub number_kept : ℕ → ℕ → ℕ
number_kept mark number = if nat_lt mark number then number else 0

-- so it is of those, and the others stay
abbrev pub IsOwnerKept : {N : Type 0} → (N → ℕ) → Size → ℕ → ℕ → List N → List N → Type 0
IsOwnerKept number size owner mark old new =
    ArePlanesChanged (λ r k x y. y ≡ (if r == owner then number_kept mark x else x)) size.nodes size.keys
    (map number old) (map number new)

-- a table, and a peer's numbers and a mark for each owner, of which it is one
pub record HasPeer {N : Type 0} (grid : Grid N) (peer : Peer N) : Type 0 where
  pub marks : HasMarkOfEach grid peer.low.now
  pub peer_count : length peer.cells.now ≡ length grid.cells.now
  pub among : peer.own < grid.size.nodes

-- how many numbers are above 0
abbrev pub count_held : {N : Type 0} → (N → ℕ) → List N → ℕ
count_held number cells = count_passing (length cells) (λ i. nat_lt 0 (slice_index (map number cells) i))

-- the table's numbers that are above both the peer's and the mark, and 0 in place of the others; and how many numbers
-- it has
pub record IsAhead {N : Type 0} (number : N → ℕ) (grid : Grid N) (peer : Peer N) (ahead : Masked N) : Type 0 where
  pub numbers : HasEachPlace grid.size.nodes grid.size.keys (λ r k n. n ≡ number_ahead (cells_in number grid r k)
      (cell (map number peer.cells.now) grid.size.nodes r k) (slice_index (map number peer.low.now) r))
      (map number ahead.numbers.items)
  pub count : ahead.count
      ≡ total_above grid.size.nodes grid.size.keys (map number ahead.numbers.items) (map number peer.low.now)
  pub held : ahead.held ≡ count_held number grid.cells.now

-- a table's numbers, of which none is above its owner's greatest one, may take what is sent
pub record MayTake {N : Type 0} (number : N → ℕ) (cells greatest : List N) (sent : Sent N) : Type 0 where
  pub beside : IsBeside sent.grid cells
  pub greatest_count : length greatest ≡ sent.grid.size.nodes
  pub low_count : length sent.low.now ≡ sent.grid.size.nodes
  pub high_count : length sent.high.now ≡ sent.grid.size.nodes
  pub covered : AreCovered sent.grid.size.nodes sent.grid.size.keys (map number cells) (map number greatest)

-- an owner's number once it took what is sent of a key
abbrev pub taken_by : {N : Type 0} → (N → ℕ) → Sent N → ℕ → ℕ → ℕ → ℕ
taken_by number sent r k x =
    number_taken x (cells_in number sent.grid r k) (slice_index (map number sent.low.now) r)
    (slice_index (map number sent.high.now) r)

-- its numbers and greatest ones once it took that
pub record AreSentTaken {N : Type 0} (number : N → ℕ) (sent : Sent N)
    (old old_greatest new new_greatest : List N) : Type 0 where
  pub cells : ArePlanesChanged (λ r k x y. y ≡ taken_by number sent r k x) sent.grid.size.nodes sent.grid.size.keys
      (map number old) (map number new)
  pub greatest : AreRaised sent.grid.size.nodes sent.grid.size.keys (map number old) (map number sent.grid.cells.now)
      (map number sent.low.now) (map number sent.high.now) (map number old_greatest) (map number new_greatest)

-- two tables of one size, of which no number is above its own table's mark of its owner
pub record AreBothCovered {N : Type 0} (number : N → ℕ) (marks : BothMarks N) (one other : List N) : Type 0 where
  pub grid : IsGrid marks.size.nodes marks.size.keys (length one)
  pub second : length other ≡ length one
  pub first_low : length marks.first.now ≡ marks.size.nodes
  pub second_low : length marks.second.now ≡ marks.size.nodes
  pub first_covered : AreCovered marks.size.nodes marks.size.keys (map number one) (map number marks.first.now)
  pub second_covered : AreCovered marks.size.nodes marks.size.keys (map number other) (map number marks.second.now)

-- each number of both is raised to the other table's, where that is above its own mark, and so many come to each
pub record AreBothRaised {N : Type 0} (number : N → ℕ) (marks : BothMarks N) (one other new_one new_other : List N)
    (came : BothCounts) : Type 0 where
  pub first : ArePlanesChanged (λ r k x y. y ≡ number_raised x (cell (map number other) marks.size.nodes r k)
      (slice_index (map number marks.first.now) r)) marks.size.nodes marks.size.keys
      (map number one) (map number new_one)
  pub second : ArePlanesChanged (λ r k x y. y ≡ number_raised x (cell (map number one) marks.size.nodes r k)
      (slice_index (map number marks.second.now) r)) marks.size.nodes marks.size.keys
      (map number other) (map number new_other)
  pub first_count : came.first
      ≡ total_above marks.size.nodes marks.size.keys (map number other) (map number marks.first.now)
  pub second_count : came.second
      ≡ total_above marks.size.nodes marks.size.keys (map number one) (map number marks.second.now)

-- the greatest numbers of two tables of so many keys
pub record AreBothGreatest {N : Type 0} (one other : List N) (keys : ℕ) : Type 0 where
  pub count : length other ≡ length one
  pub few_nodes : length one ≤ MOST_NODES
  pub few_keys : keys ≤ MOST_KEYS

-- how many numbers may come to each of these tables
pub record AreMostAhead {N : Type 0} (number : N → ℕ) (one other : List N) (keys : ℕ) (most : BothCounts) : Type 0 where
  pub first : most.first ≡ most_ahead (length one) keys (map number other) (map number one)
  pub second : most.second ≡ most_ahead (length one) keys (map number one) (map number other)

-- each number of two lists is raised to the other list's
pub record AreRaisedToOther {N : Type 0} (number : N → ℕ) (one other new_one new_other : List N) : Type 0 where
  pub first : AreChanged (λ r x y. y ≡ max x (slice_index (map number other) r)) (map number one) (map number new_one)
  pub second : AreChanged (λ r x y. y ≡ max x (slice_index (map number one) r))
      (map number other) (map number new_other)
