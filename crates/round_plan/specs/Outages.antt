-- Which nodes are out of reach in a round. A restart takes a node down for as many rounds as it says, from its
-- own round on; a partition keeps the nodes that it lists from all others, from its first round to its last.
-- Source: this project.
use Rattle.std.specs.Prelude.{ℕ, ◌+◌, ◌==◌, ◌&&◌, Bool, not, nat_le, nat_lt}
use Rattle.std.specs.Bool.{xor}
use Rattle.std.specs.List.{list_any}
use Rattle.scenario.specs.declared.elements.Partition.{Partition}
use Rattle.scenario.specs.declared.elements.Restart.{Restart}
use Rattle.scenario.specs.Settings.{Settings}

-- a round from a first to a last
abbrev pub is_between : ℕ → ℕ → ℕ → Bool
is_between from to round = nat_le from round && nat_le round to

-- a restart keeps a node down in a round
abbrev pub takes_down : ℕ → ℕ → Restart → Bool
takes_down node round r = (r.node == node) && (nat_le r.round round && nat_lt round (r.round + r.down))

unfoldable pub is_up : Settings → ℕ → ℕ → Bool
is_up s node round = not (list_any (takes_down node round) s.restarts)

-- a restart of a node begins in a round
abbrev pub restarts_in : ℕ → ℕ → Restart → Bool
restarts_in node round r = (r.node == node) && (r.round == round)

unfoldable pub restarts_now : Settings → ℕ → ℕ → Bool
restarts_now s node round = list_any (restarts_in node round) s.restarts

-- a restart of a node begins in a round, and the node forgets all that it holds
abbrev pub forgets_in : ℕ → ℕ → Restart → Bool
forgets_in node round r = restarts_in node round r && r.forget

-- where several restarts of a node begin in one round they act as one, which forgets where any of them does
unfoldable pub forgets_now : Settings → ℕ → ℕ → Bool
forgets_now s node round = list_any (forgets_in node round) s.restarts

-- a partition lists a node
abbrev pub lists : Partition → ℕ → Bool
lists partition node = list_any (λ n. n == node) partition.apart

-- a partition covers a round and lists exactly one of two nodes
unfoldable pub separates : ℕ → ℕ → ℕ → Partition → Bool
separates p q round partition =
    is_between partition.from partition.to round && xor (lists partition p) (lists partition q)

unfoldable pub separated : Settings → ℕ → ℕ → ℕ → Bool
separated s p q round = list_any (separates p q round) s.partitions
