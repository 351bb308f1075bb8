-- The list of a round of a scenario: by ascending initiator, each node that is up begins one exchange with its peer,
-- where that is up too and no partition lies between them. Source: this project.
use Rattle.std.specs.Prelude.{ℕ, ◌%◌, Bool, not, ◌&&◌, nat_lt, map, count_by}
use Rattle.std.specs.List.{range_with_len, filter}
use Rattle.bench_types.specs.declared.exchanges.Exchange.{Exchange}
use Rattle.limits.specs.declared.TheConstants.{MOST_LOSS}
use Rattle.scenario.specs.declared.choices.Rotation.{Rotation}
use Rattle.scenario.specs.declared.choices.Rotation.TheVariants.{Random, Off}
use Rattle.scenario.specs.Settings.{Settings}
use Rattle.round_plan.specs.Outages.{is_up, separated}
use Rattle.round_plan.specs.Peer.{peer_of}
use Rattle.round_plan.specs.Words.{word_of}
use Rattle.model.specs.RoundLists.{RoundListView, round_list_view}

-- a message is lost where its word, modulo a million, which is a rate of 1, is below the scenario's rate
abbrev pub is_lost : Settings → ℕ → Bool
is_lost s word = nat_lt (word % MOST_LOSS) s.loss_ppm

-- the owner at which the order of an exchange's entries begins, among so many nodes, by a word
abbrev pub rotation_by : Rotation → ℕ → ℕ → ℕ
rotation_by Random nodes word = word % nodes
rotation_by Off nodes word = 0

-- the exchange that a node begins in a round: its words 1 to 3 lose its messages, and word 4 picks the rotation
abbrev pub exchange_of : Settings → ℕ → ℕ → Exchange
exchange_of s round node = record {
  initiator = node;
  responder = peer_of s node round;
  lost1 = is_lost s (word_of s node round 1);
  lost2 = is_lost s (word_of s node round 2);
  lost3 = is_lost s (word_of s node round 3);
  rotation = rotation_by s.rotation s.nodes (word_of s node round 4);
}

-- a node's peer is up and not separated from it
abbrev pub reaches : Settings → ℕ → ℕ → Bool
reaches s round node = is_up s (peer_of s node round) round && not (separated s node (peer_of s node round) round)

abbrev pub begins : Settings → ℕ → ℕ → Bool
begins s round node = is_up s node round && reaches s round node

abbrev pub is_unreached : Settings → ℕ → ℕ → Bool
is_unreached s round node = is_up s node round && not (reaches s round node)

-- the exchanges of a round in order, and how many nodes are up and reach no peer
abbrev pub round_list_of : Settings → ℕ → RoundListView
round_list_of s round =
    round_list_view s.nodes (count_by (is_unreached s round) (range_with_len 0 s.nodes))
    (map (exchange_of s round) (filter (begins s round) (range_with_len 0 s.nodes)))
