-- The longest beginning of a list that fits into a budget. Source: this project.
use Rattle.std.specs.Prelude.{ℕ, List, ◌-◌, nat_le, [], ◌∷◌, if◌then◌else◌}

module _ {X : Type 0} (size : X → ℕ) where
  -- the longest beginning of a list that fits
  abbrev pub fitting : ℕ → List X → List X
  fitting budget [] = []
  fitting budget (x ∷ xs) = if nat_le (size x) budget then x ∷ fitting (budget - size x) xs else []

  -- what it leaves of the budget: nothing, once one doesn't fit
  abbrev pub left_after : ℕ → List X → ℕ
  left_after budget [] = budget
  left_after budget (x ∷ xs) = if nat_le (size x) budget then left_after (budget - size x) xs else 0
