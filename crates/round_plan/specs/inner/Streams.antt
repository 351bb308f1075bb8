-- The streams of the nodes, and the words that come next in them. Source: this project.
use Rattle.std.specs.Prelude.{◌≡◌, ℕ, ◌+◌, ◌<◌, ◌≤◌, List, length, slice_index, slice_index_or}
use Rattle.limits.specs.declared.TheConstants.{MOST_ROUNDS}
use Rattle.rand_chacha.specs.ChaCha.{ChaCha, word_at, key_of}
use Rattle.round_plan.specs.declared.run_words.NodeWords.{NodeWords}
use Rattle.round_plan.specs.declared.words.TheConstants.{ROUND_WORDS}
use Rattle.round_plan.specs.Words.{position, seed_bytes}
use Rattle.round_plan.specs.calls.Words.{AreWordsOf}

-- a node's stream, where the word at a place of a round comes next
abbrev pub stream_of : ℕ → ℕ → ℕ → ℕ → ChaCha
stream_of seed node round place =
    record { key = key_of (seed_bytes seed); stream = node; word_pos = position round place }

-- the words that a stream has next, as many as a round has
pub record AreNextWords (stream : ChaCha) (words : List ℕ) : Type 0 where
  pub count : length words ≡ ROUND_WORDS
  pub value : (place : ℕ) → place < ROUND_WORDS
      → slice_index words place ≡ word_at 10 stream.key stream.stream (stream.word_pos + place)

-- a node's part has drawn the words of one more round
pub record HasDrawn (old new : NodeWords) : Type 0 where
  pub words : AreNextWords old.stream new.words
  pub stream : new.stream ≡ record old.stream { word_pos = old.stream.word_pos + ROUND_WORDS }

-- each node's part has
pub record HaveDrawn (old new : List NodeWords) : Type 0 where
  pub count : length new ≡ length old
  pub each : (node : ℕ) (d : NodeWords) → node < length old
      → HasDrawn (slice_index_or old node d) (slice_index_or new node d)

-- the streams of all nodes have the words of a round next
abbrev pub StandBefore : ℕ → ℕ → List NodeWords → Type 0
StandBefore seed round parts =
    (node : ℕ) (d : NodeWords) → node < length parts → (slice_index_or parts node d).stream ≡ stream_of seed node round 0

-- a node's part in a round: its stream has the words of the next round next, and its words are those of this one
pub record IsPartOf (seed round node : ℕ) (part : NodeWords) : Type 0 where
  pub stream : part.stream ≡ stream_of seed node (round + 1) 0
  pub words : 1 ≤ round → AreWordsOf seed node round part.words

-- the parts of all nodes in a round, by node
pub record ArePartsOf (seed round : ℕ) (parts : List NodeWords) : Type 0 where
  pub last : round ≤ MOST_ROUNDS
  pub each : (node : ℕ) (d : NodeWords) → node < length parts → IsPartOf seed round node (slice_index_or parts node d)
