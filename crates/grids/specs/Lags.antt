-- Numbers compared with the last ones. Source: this project.
use Rattle.std.specs.Prelude.{◌≡◌, ◌⊎◌, ℕ, ◌<◌, ◌≤◌, List, length, map, min, nat_lt}
use Rattle.grids.specs.Common.{Grid, cells_in, cell, total_of, ArePlanesChanged, Cells}
use Rattle.grids.specs.Grids.{IsBeside}

-- the least of an owner's numbers that are below the last ones, or the most where none is
pub record IsLeastBehind (most : ℕ) (cells last : Cells) (keys owner least : ℕ) : Type 0 where
  pub no_less : (key : ℕ) → key < keys → cells owner key < last owner key → least ≤ cells owner key
  pub is : (least ≡ most) ⊎ ((key : ℕ) × (key < keys) × (cells owner key < last owner key) × (cells owner key ≡ least))

pub record HasLast {N : Type 0} (grid : Grid N) (least last : List N) : Type 0 where
  pub beside : IsBeside grid least
  pub last_count : length last ≡ length least

-- numbers are lowered to those of a table, and so many of these are below the last ones
pub record AreLoweredCounting {N : Type 0} (number : N → ℕ) (grid : Grid N) (last old new : List N)
    (behind : ℕ) : Type 0 where
  pub least : ArePlanesChanged (λ r k x y. y ≡ min x (cells_in number grid r k)) grid.size.nodes grid.size.keys
      (map number old) (map number new)
  pub count : behind ≡ total_of grid.size.nodes grid.size.keys
      (λ r k. nat_lt (cells_in number grid r k) (cell (map number last) grid.size.nodes r k))
