-- Four writes of one owner, by hand: the keys 5 and 3 in round 2, and the key 5 in the rounds 4 and 7.
use Rattle.std.specs.Prelude.{ℕ, ◌+◌, ◌++◌, ◌∷◌, [], List, length, Option, option_map}
use Rattle.model.specs.declared.writes.Write.{Write}
use Rattle.model.specs.Writes.{first_above}
use Rattle.owner_lists.specs.Missed.{first_missed}

-- one write more
abbrev pub pushed : List Write → ℕ → ℕ → List Write
pushed writes key born = writes ++ record { key = key; version = length writes + 1; born = born } ∷ []

abbrev pub four_writes : List Write
four_writes = pushed (pushed (pushed (pushed [] 5 2) 3 2) 5 4) 5 7

-- the version and the round of the first of them that someone who holds this version of the key has missed
abbrev pub missed : ℕ → ℕ → Option (ℕ × ℕ)
missed key held = option_map (λ w. (w.version, w.born)) (first_missed four_writes key held)

-- and where they are of this generation, of the first above a mark
abbrev pub missed_in : ℕ → ℕ → ℕ → ℕ → Option (ℕ × ℕ)
missed_in current key generation version =
    option_map (λ w. (w.version, w.born))
    (first_above current four_writes key (record { generation = generation; version = version }))
