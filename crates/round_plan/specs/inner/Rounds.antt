-- What the parts of a round say. Source: this project.
use Rattle.std.specs.Prelude.{◌≡◌, ℕ, ◌+◌, if◌then◌else◌, List, map, length, ◌<◌, ◌≤◌, slice_index}
use Rattle.std.specs.List.{range_with_len}
use Rattle.limits.specs.declared.TheConstants.{MOST_ROUNDS, MOST_WRITES}
use Rattle.bench_types.specs.Entry.{next_version}
use Rattle.scenario.specs.Settings.{Settings}
use Rattle.scenario.specs.declared.choices.Choice.{Choice}
use Rattle.round_plan.specs.declared.rounds.Chosen.{Chosen}
use Rattle.round_plan.specs.declared.rounds.Chosen.TheVariants.{Down, Unreached, Begins}
use Rattle.round_plan.specs.Outages.{is_up}
use Rattle.round_plan.specs.Plan.{exchange_of, reaches}
use Rattle.round_plan.specs.Writes.{number_by}

-- a node of a scenario, in a round that a run may have
abbrev pub IsNodeInRound : Settings → ℕ → ℕ → Type 0
IsNodeInRound s node round = (node < s.nodes) × (1 ≤ round) × (round ≤ MOST_ROUNDS)

-- what a node is in a round, or begins
abbrev pub chosen_of : Settings → ℕ → ℕ → Chosen
chosen_of s round node =
    if is_up s node round
    then (if reaches s round node then Begins (exchange_of s round node) else Unreached) else Down

-- those of all nodes, in order
abbrev pub AreChosen : Settings → ℕ → List Chosen → Type 0
AreChosen s round chosen = chosen ≡ map (chosen_of s round) (range_with_len 0 s.nodes)

-- the numbers of the most writes, by these words or behind so many writes of the generation
abbrev pub AreWriteNumbers : Choice → ℕ → List ℕ → List ℕ → Type 0
AreWriteNumbers choice count_before words numbers =
    (length numbers ≡ MOST_WRITES) × ((place : ℕ) → place < MOST_WRITES
    → slice_index numbers place ≡ number_by choice (slice_index words (8 + place)) (next_version (count_before + place)))
