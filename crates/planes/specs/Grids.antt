-- Tables of planes, and marks of their owners. Source: this project.
use Rattle.std.specs.Prelude.{◌≡◌, ℕ, ◌<◌, List, length, map}
use Rattle.planes.specs.Planes.{cell, AreCovered, Cells, IsGrid}
use Rattle.planes.specs.declared.sizes.Grid.{Grid}

-- there are as many numbers as the size says
abbrev pub IsGridOf : {N : Type 0} → Grid N → Type 0
IsGridOf grid = IsGrid grid.size.nodes grid.size.keys (length grid.cells.now)

abbrev pub cells_in : {N : Type 0} → (N → ℕ) → Grid N → Cells
cells_in number grid = cell (map number grid.cells.now) grid.size.nodes

-- and a mark for each owner
pub record HasMarkOfEach {N : Type 0} (grid : Grid N) (marks : List N) : Type 0 where
  pub shape : IsGridOf grid
  pub count : length marks ≡ grid.size.nodes

-- or two
pub record HasTwoMarksOfEach {N : Type 0} (grid : Grid N) (low high : List N) : Type 0 where
  pub shape : IsGridOf grid
  pub low_count : length low ≡ grid.size.nodes
  pub high_count : length high ≡ grid.size.nodes

-- of which no number is above the high one
pub record IsMarked {N : Type 0} (number : N → ℕ) (grid : Grid N) (low high : List N) : Type 0 where
  pub marks : HasTwoMarksOfEach grid low high
  pub covered : AreCovered grid.size.nodes grid.size.keys (map number grid.cells.now) (map number high)

pub record IsOwnerOf {N : Type 0} (grid : Grid N) (owner : ℕ) : Type 0 where
  pub shape : IsGridOf grid
  pub within : owner < grid.size.nodes
