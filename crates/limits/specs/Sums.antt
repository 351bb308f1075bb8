-- Sums and greatest values below a bound. Source: this project.
use Rattle.std.specs.Prelude.{ℕ, zero, suc, ◌+◌, max}

-- the sum of what f gives below a bound
abbrev pub sum_below : ℕ → (ℕ → ℕ) → ℕ
sum_below zero f = 0
sum_below (suc n) f = sum_below n f + f n

-- the greatest of what f gives below a bound
abbrev pub most_below : ℕ → (ℕ → ℕ) → ℕ
most_below zero f = 0
most_below (suc n) f = max (most_below n f) (f n)
