-- Lists of numbers that are changed element by element. Source: this project.
use Rattle.std.specs.Prelude.{◌≡◌, ℕ, ◌<◌, ◌≤◌, List, length, slice_index}

-- the numbers below a bound are changed as a relation of index, old and new number says, and the others aren't
pub record AreChangedUpto (changed : ℕ → ℕ → ℕ → Type 0) (old new : List ℕ) (bound : ℕ) : Type 0 where
  pub size : length new ≡ length old
  pub below : (r : ℕ) → r < bound → changed r (slice_index old r) (slice_index new r)
  pub from : (r : ℕ) → bound ≤ r → slice_index new r ≡ slice_index old r

-- and so for all of them
pub record AreChanged (changed : ℕ → ℕ → ℕ → Type 0) (old new : List ℕ) : Type 0 where
  pub size : length new ≡ length old
  pub each : (r : ℕ) → r < length old → changed r (slice_index old r) (slice_index new r)
