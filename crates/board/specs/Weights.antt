-- Lists compared by weight: how often an index stands in lists of indices. Source: this project.
use Rattle.std.specs.Prelude.{ℕ, ◌+◌, ◌<◌, ◌==◌, Bool, cond, List, [], ◌∷◌}

abbrev pub total : {A : Type 0} → (A → ℕ) → List A → ℕ
total f [] = 0
total f (x ∷ xs) = f x + total f xs

-- 1 at one index, 0 at all others
abbrev pub only : ℕ → ℕ → ℕ
only i j = cond (j == i) 1 0

-- how often an index stands in a list
abbrev pub times : ℕ → List ℕ → ℕ
times i xs = total (only i) xs

-- an index stands in a list
abbrev pub Has : List ℕ → ℕ → Type 0
Has xs i = 0 < times i xs

abbrev pub flag : Bool → ℕ
flag b = cond b 1 0
