-- What is said of owners one by one, said of several. Source: this project.
use Rattle.std.specs.Prelude.{ℕ, ◌<◌}
use Rattle.model.specs.Table.{Table}
use Rattle.model.specs.Copies.{OwnParts, Generations, WritesBy, IsLastOf, HasNoGapOf}

-- the own part of each of so many owners is its last writes
abbrev pub AreLastOf : ℕ → Generations → WritesBy → OwnParts → Type 0
AreLastOf nodes generations writes own =
    (owner : ℕ) → owner < nodes → IsLastOf (generations owner) (writes owner) (own owner)

-- the table has no gap of any owner
abbrev pub HasNoGap : OwnParts → Table → Type 0
HasNoGap own t = (owner : ℕ) → HasNoGapOf owner (own owner) t
