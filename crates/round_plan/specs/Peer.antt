-- The peer of a node in a round, with which it begins its exchange. By the node's words it is one of the others,
-- counted in ascending order; on the ring of nodes it is the next one in round 1, one further in each later round,
-- and after the last of the others the next again. Source: this project.
use Rattle.std.specs.Prelude.{ℕ, ◌+◌, ◌-◌, ◌%◌, ◌==◌, not, List, slice_index}
use Rattle.std.specs.List.{range_with_len, filter}
use Rattle.scenario.specs.declared.choices.Peers.{Peers}
use Rattle.scenario.specs.declared.choices.Peers.TheVariants.{Random, Ring}
use Rattle.scenario.specs.Settings.{Settings}
use Rattle.round_plan.specs.Words.{word_of}

-- among so many nodes, all but one, ascending
abbrev pub others : ℕ → ℕ → List ℕ
others nodes node = filter (λ n. not (n == node)) (range_with_len 0 nodes)

-- among so many nodes, by a word
unfoldable pub random_peer : ℕ → ℕ → ℕ → ℕ
random_peer nodes node word = slice_index (others nodes node) (word % (nodes - 1))

-- among so many nodes on a ring
abbrev pub ring_peer : ℕ → ℕ → ℕ → ℕ
ring_peer nodes node round = (node + 1 + (round - 1) % (nodes - 1)) % nodes

abbrev pub peer_by : Peers → ℕ → ℕ → ℕ → ℕ → ℕ
peer_by Random nodes node round word = random_peer nodes node word
peer_by Ring nodes node round word = ring_peer nodes node round

-- word 0 of a node's round picks its peer
abbrev pub peer_of : Settings → ℕ → ℕ → ℕ
peer_of s node round = peer_by s.peers s.nodes node round (word_of s node round 0)
