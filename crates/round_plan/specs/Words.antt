-- The words of a node. Each node draws from a ChaCha20 stream of its own, whose number is the node's, and all
-- streams have one key: the seed of the scenario as eight bytes, the least first, and then zeros. A round of a
-- node has the 16 words of one block, round 1 those of block 0. Each word is drawn by its place, so that a word
-- that nothing uses moves no other. Source: RFC 8439 for the block; streams and places are this project's.
use Rattle.std.specs.Prelude.{ℕ, ◌+◌, ◌-◌, ◌*◌, List, ◌++◌, replicate}
use Rattle.std.specs.Int.{w64, to_le_bytes}
use Rattle.rand_chacha.specs.ChaCha.{word_at, key_of}
use Rattle.scenario.specs.Settings.{Settings}

-- the 32 bytes of the key
unfoldable pub seed_bytes : ℕ → List ℕ
seed_bytes seed = to_le_bytes w64 seed ++ replicate 24 0

-- where a place of a round lies in a stream
abbrev pub position : ℕ → ℕ → ℕ
position round place = 16 * (round - 1) + place

-- the word at a place of a node's round under a seed, by ten double rounds
unfoldable pub word_by : ℕ → ℕ → ℕ → ℕ → ℕ
word_by seed node round place = word_at 10 (key_of (seed_bytes seed)) node (position round place)

-- and in a scenario
abbrev pub word_of : Settings → ℕ → ℕ → ℕ → ℕ
word_of s node round place = word_by s.seed node round place
