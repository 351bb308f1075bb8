-- The records of a list's exchanges come in any order: for each exchange of the list, in list order, its record or none
-- yet. The first record of an exchange stays. They go out in list order, once none is missing. Source: this project.
use Rattle.std.specs.Prelude.{◌≡◌, ℕ, ◌<◌, List, Option, Some, None, replicate, slice_get, slice_set}
use Rattle.bench_types.specs.declared.exchanges.Record.{Record}
use Rattle.collector.specs.declared.collectors.Stamped.{Stamped}

abbrev pub Outcomes : Type 0
Outcomes = List (Option Record)

-- a list of n exchanges of which no record has come
abbrev pub no_outcomes : ℕ → Outcomes
no_outcomes n = replicate n None

-- exchange i is one of the list and has no record
abbrev pub IsMissing : Outcomes → ℕ → Type 0
IsMissing xs i = slice_get xs i ≡ Some None

-- exchange i is one of the list and has a record
abbrev pub HasOutcome : Outcomes → ℕ → Type 0
HasOutcome xs i = (r : Record) × (slice_get xs i ≡ Some (Some r))

-- the stamped exchange has its record, and all others are as before
abbrev pub with_outcome : Outcomes → Stamped → Outcomes
with_outcome xs s = slice_set xs s.index (Some s.outcome)

-- exchange i has no record, and each one before it has
pub record IsFirstMissing (xs : Outcomes) (i : ℕ) : Type 0 where
  pub missing : IsMissing xs i
  pub before : (j : ℕ) → j < i → HasOutcome xs j
