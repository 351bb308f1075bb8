-- What contracts see of words in memory. Source: this project.
use Rattle.std.specs.Prelude.{◌≡◌, ℕ, ◌<◌, List, length, slice_index}
use Rattle.scenario.specs.Settings.{Settings}
use Rattle.round_plan.specs.declared.words.TheConstants.{ROUND_WORDS}
use Rattle.round_plan.specs.Words.{word_by}

-- all words of a node's round under a seed, by place
pub record AreWordsOf (seed node round : ℕ) (words : List ℕ) : Type 0 where
  pub count : length words ≡ ROUND_WORDS
  pub value : (place : ℕ) → place < ROUND_WORDS → slice_index words place ≡ word_by seed node round place

-- what contracts see of the words of all nodes in a round of a run; in round 0 nothing was drawn yet
pub record RunWordsView : Type 0 where
  pub seed : ℕ
  pub nodes : ℕ
  pub round : ℕ

-- those of a scenario's run
abbrev pub run_words_of : Settings → ℕ → RunWordsView
run_words_of s round = record { seed = s.seed; nodes = s.nodes; round = round }
