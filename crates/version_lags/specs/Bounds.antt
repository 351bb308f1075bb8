-- Parts of the tables, each from one bound up to the next. Source: this project.
use Rattle.std.specs.Prelude.{◌≡◌, ℕ, ◌+◌, ◌-◌, ◌<◌, ◌≤◌, List, length, slice_index}

-- from one of so many tables up to another
pub record IsStretchOf (tables from to : ℕ) : Type 0 where
  pub rises : from ≤ to
  pub within : to ≤ tables

-- bounds from 0 up to a last one
pub record AreBounds (last : ℕ) (bounds : List ℕ) : Type 0 where
  pub some : 0 < length bounds
  pub begins : slice_index bounds 0 ≡ 0
  pub ends : slice_index bounds (length bounds - 1) ≡ last
  pub parts : (i : ℕ) → i + 1 < length bounds → IsStretchOf last (slice_index bounds i) (slice_index bounds (i + 1))
