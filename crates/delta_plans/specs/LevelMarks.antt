-- A delta as marks, one for each owner: whole levels, and of the level that doesn't fit what comes before the first
-- candidate that doesn't. Source: this project.
use Rattle.std.specs.Prelude.{◌≡◌, ℕ, ◌<◌, ◌≤◌, List, Option, Some, None, nat_lt, nat_le, not, Bool, if◌then◌else◌}
use Rattle.delta_plans.specs.Common.{sum_below, Entry, First, Oldest, Newest, Mode, ScuttleBreadth, ScuttleDepth, PreciseOldest, PreciseNewest, write_numbered, Cells, count_above, Item}

-- the number of an item
abbrev pub item_number : Cells → Item → ℕ
item_number cells i = cells i.owner i.entry.key

-- of an owner's numbers the lower comes first, or from the newest on the higher
abbrev pub comes_first : First → ℕ → ℕ → Bool
comes_first Oldest m n = nat_lt m n
comes_first Newest m n = nat_lt n m

-- one of two, by what goes first
abbrev pub by_first : {A : Type 0} → First → A → A → A
by_first Oldest x y = x
by_first Newest x y = y

-- one mark is no nearer than another
abbrev pub IsOn : First → ℕ → ℕ → Type 0
IsOn Oldest near mark = near ≤ mark
IsOn Newest near mark = mark ≤ near

-- which of an owner's candidates of one level a mode sends first
abbrev pub first_sent : Mode → First
first_sent ScuttleBreadth = Oldest
first_sent ScuttleDepth = Oldest
first_sent PreciseOldest = Oldest
first_sent PreciseNewest = Newest

-- and which level: the lower, or the higher
abbrev pub first_level : Mode → First
first_level ScuttleBreadth = Oldest
first_level ScuttleDepth = Newest
first_level PreciseOldest = Oldest
first_level PreciseNewest = Newest

-- a mode lets a number through that is up to it, or from the newest on above it
abbrev pub lets_through : First → ℕ → ℕ → Bool
lets_through Oldest mark number = nat_le number mark
lets_through Newest mark number = nat_lt mark number

-- an owner's numbers differ from key to key
abbrev pub NumbersDiffer : Cells → ℕ → ℕ → Type 0
NumbersDiffer cells keys owner =
    (k l : ℕ) → k < keys → l < keys → 0 < cells owner k → cells owner k ≡ cells owner l → k ≡ l

-- how many of an owner's numbers above a mark are below a number
abbrev pub rank_above : Cells → ℕ → ℕ → ℕ → ℕ → ℕ
rank_above cells keys owner mark number =
    sum_below keys (λ key. if nat_lt mark (cells owner key)
    then (if nat_lt (cells owner key) number then 1 else 0) else 0)

-- when a write was made, 0 for none
abbrev pub round_of : Option Entry → ℕ
round_of None = 0
round_of (Some e) = e.born

-- and that of an owner's number
abbrev pub round_in : (ℕ → List Entry) → ℕ → ℕ → ℕ
round_in lists owner number = round_of (write_numbered (lists owner) number)

-- the level of an owner's number: how many are offered below it, how many of its owner are, or when it was written
abbrev pub level_number : Mode → (ℕ → List Entry) → Cells → ℕ → (ℕ → ℕ) → ℕ → ℕ → ℕ
level_number ScuttleBreadth lists cells keys low owner number = rank_above cells keys owner (low owner) number
level_number ScuttleDepth lists cells keys low owner number = count_above cells keys owner (low owner)
level_number PreciseOldest lists cells keys low owner number = round_in lists owner number
level_number PreciseNewest lists cells keys low owner number = round_in lists owner number

-- near marks let through what is of the levels before one, and far marks what is of that level too
pub record AreLevelMarks (first way : First) (level : ℕ → ℕ → ℕ) (cells : Cells) (nodes keys : ℕ)
    (low near far : ℕ → ℕ) : Type 0 where
  pub next : ℕ
  pub near_is : (r key : ℕ) → r < nodes → key < keys → low r < cells r key
      → lets_through first (near r) (cells r key) ≡ comes_first way (level r (cells r key)) next
  pub far_is : (r key : ℕ) → r < nodes → key < keys → low r < cells r key
      → lets_through first (far r) (cells r key) ≡ not (comes_first way next (level r (cells r key)))
