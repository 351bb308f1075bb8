-- Numbers of which those are kept that are ahead of a peer's. Source: this project.
use Rattle.std.specs.Prelude.{◌≡◌, ◌≢◌, ℕ, ◌<◌, ◌&&◌, false, nat_le, nat_lt, List, length, map, slice_index}
use Rattle.grids.specs.Common.{Grid, cells_in, cell, total_of, Cells, HasEachPlace, Masked}
use Rattle.grids.specs.Grids.{count_held, number_kept}

-- no owner but one has a mark above 0
abbrev pub HasNoOtherMark : List ℕ → ℕ → Type 0
HasNoOtherMark low own = (owner : ℕ) → owner < length low → owner ≢ own → slice_index low owner ≡ 0

-- none of an owner's numbers is above 0 and up to a mark
abbrev pub HasNoneUptoMark : Cells → ℕ → ℕ → ℕ → Type 0
HasNoneUptoMark cells keys owner mark =
    (key : ℕ) → key < keys → (nat_lt 0 (cells owner key) && nat_le (cells owner key) mark) ≡ false

-- numbers of a table that are above the peer's, so many, and 0 in place of the others; and how many numbers it has
pub record AreAbovePeer {N : Type 0} (number : N → ℕ) (grid : Grid N) (peer : List N) (above : Masked N) : Type 0 where
  pub numbers : HasEachPlace grid.size.nodes grid.size.keys (λ r k n. n
      ≡ number_kept (cell (map number peer) grid.size.nodes r k) (cells_in number grid r k))
      (map number above.numbers.items)
  pub count : above.count ≡ total_of grid.size.nodes grid.size.keys
      (λ r k. nat_lt (cell (map number peer) grid.size.nodes r k) (cells_in number grid r k))
  pub held : above.held ≡ count_held number grid.cells.now
