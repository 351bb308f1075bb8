-- The generation of a node: 0 at first, and one more in each round in which it forgets. What it writes from then on, in
-- that round too, is of the new generation. Source: Cassandra for the word; the rule is this project's.
use Rattle.std.specs.Prelude.{ℕ, zero, suc, ◌+◌, if◌then◌else◌}
use Rattle.scenario.specs.Settings.{Settings}
use Rattle.round_plan.specs.Outages.{forgets_now}

-- in how many rounds up to this one a node forgets: its generation in that round
abbrev pub generation_upto : Settings → ℕ → ℕ → ℕ
generation_upto s node zero = 0
generation_upto s node (suc round) = generation_upto s node round + (if forgets_now s node (suc round) then 1 else 0)
