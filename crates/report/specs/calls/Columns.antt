-- Which formats calls take. Source: this project.
use Rattle.std.specs.Prelude.{ℕ, ◌≤◌}

-- a format that there is
abbrev pub IsFormat : ℕ → Type 0
IsFormat format = (1 ≤ format) × (format ≤ 2)
